-- Names as they are kept, and the members that binding lists.
use Rattle.std.proofs.Common.{◌≡◌, ℕ, Bool, true, false, cond, eqb, ◌||◌, is_some, Option, None, Some, List, [], ◌∷◌, map, filter, refl, sym, ap, subst, ◌∙◌, arith}
use Rattle.std.specs.List.{list_any, find as first_of_list}
use Rattle.std.proofs.lemmas.Bool.Decides.{nat_tests}
use Rattle.cr_base.specs.declared.token.Name.{Name}
use Rattle.cr_typing.specs.declared.members.Named.{Named}
use Rattle.cr_typing.specs.Members.{Members, Listed, find, repeated, least_token, lesser}
use Rattle.cr_types.specs.Types.{Table}
use Rattle.cr_binding.specs.Source.{Source, name_at}
use Rattle.cr_binding.specs.State.{Member}
use Rattle.cr_binding.specs.RecordMembers as binding
use Rattle.cr_binding.specs.RecordMembers.{is_named}
use Rattle.cr_records.specs.declared.rows.Selector.{Selector}
use Rattle.cr_records.specs.Kept.{placed_at, name_of, named_by}
use Rattle.cr_records.specs.Records.{member_by, AreSpelledBy}

pub eqb_swap : (a b : ℕ) → eqb a b ≡ eqb b a
eqb_swap a b = grind (arith, nat_tests)

-- the same names and tokens
abbrev pub AreSame : Source → List (Name × Named) → List Member → Type 0
AreSame t [] [] = Unit {0}
AreSame t [] (m ∷ ms) = ⊥
AreSame t (e ∷ es) [] = ⊥
AreSame t (e ∷ es) (m ∷ ms) = (e.0 ≡ name_at t m.token) × (e.1.token ≡ m.token) × AreSame t es ms

pub same_names : (s : Source) (t : Table) (m : Members) (ws : List Selector) → AreSpelledBy s m ws → AreSame s (map (named_by m) ws) (map (member_by t m) ws)
same_names s t m [] h = tt
same_names s t m (w ∷ ws) h = (h.0, refl, same_names s t m ws h.1)

pub found_same : (t : Source) (name : Name) (es : List (Name × Named)) (ms : List Member) → AreSame t es ms → is_some (find name es) ≡ list_any (is_named t name) ms
found_same t name [] [] h = refl
found_same t name [] (m ∷ ms) h = absurd h
found_same t name (e ∷ es) [] h = absurd h
found_same t name (e ∷ es) (m ∷ ms) h =
    by (eqb name.0 e.0.0)
    ∙ (λ j. (same j || found_same t name es ms h.2 j))
  where
    same : eqb name.0 e.0.0 ≡ eqb (name_at t m.token).0 name.0
    same = ap (λ (n : Name). eqb name.0 n.0) h.0 ∙ eqb_swap name.0 (name_at t m.token).0

    by : (b : Bool) → is_some (cond b (Some e.1) (find name es)) ≡ (b || is_some (find name es))
    by true = refl
    by false = refl

lesser_same : (i : ℕ) (o : Option ℕ) → lesser i o ≡ binding.lesser i o
lesser_same i None = refl
lesser_same i (Some j) = refl

-- of names that are there already the least token
pub least_same : (t : Source) (x : Listed) (ms : List Member) (es : List (Name × Named)) (new : List Member) → AreSame t x.named ms → AreSame t es new
    → least_token (repeated x es) ≡ binding.least_token (filter (λ m. list_any (is_named t (name_at t m.token)) ms) new)
least_same t x ms [] [] there h = refl
least_same t x ms [] (n ∷ new) there h = absurd h
least_same t x ms (e ∷ es) [] there h = absurd h
least_same t x ms (e ∷ es) (n ∷ new) there h =
    ap (λ b. least_token (cond b (e ∷ repeated x es) (repeated x es))) same
    ∙ by (list_any (is_named t (name_at t n.token)) ms) (least_same t x ms es new there h.2)
  where
    same : is_some (find e.0 x.named) ≡ list_any (is_named t (name_at t n.token)) ms
    same = found_same t e.0 x.named ms there ∙ ap (λ z. list_any (is_named t z) ms) h.0

    by : (b : Bool) → least_token (repeated x es) ≡ binding.least_token (filter (λ m. list_any (is_named t (name_at t m.token)) ms) new)
        → least_token (cond b (e ∷ repeated x es) (repeated x es))
        ≡ binding.least_token (cond b (n ∷ filter (λ m. list_any (is_named t (name_at t m.token)) ms) new) (filter (λ m. list_any (is_named t (name_at t m.token)) ms) new))
    by true rest =
        ap (λ o. Some (lesser e.1.token o)) rest
        ∙ ap (λ i. Some (lesser i (binding.least_token (filter (λ m. list_any (is_named t (name_at t m.token)) ms) new)))) h.1
        ∙ ap Some (lesser_same n.token (binding.least_token (filter (λ m. list_any (is_named t (name_at t m.token)) ms) new)))
    by false rest = rest

-- ---- what a name selects

abbrev pub AreFound : Table → Members → Option Named → Option Member → Type 0
AreFound t m None o = o ≡ None
AreFound t m (Some x) o = (w : Selector) × (w.member ≡ x.member) × (o ≡ Some (member_by t m w))

pub found_both : (s : Source) (t : Table) (m : Members) (name : Name) (ws : List Selector) → AreSpelledBy s m ws
    → AreFound t m (find name (map (named_by m) ws)) (first_of_list (is_named s name) (map (member_by t m) ws))
found_both s t m name [] h = refl
found_both s t m name (w ∷ ws) h = by (eqb name.0 (name_of (placed_at m w.member)).0) same (found_both s t m name ws h.1)
  where
    same : eqb name.0 (name_of (placed_at m w.member)).0 ≡ eqb (name_at s (placed_at m w.member).member.token).0 name.0
    same = ap (λ (n : Name). eqb name.0 n.0) h.0 ∙ eqb_swap name.0 (name_at s (placed_at m w.member).member.token).0

    by : (b : Bool) → b ≡ eqb (name_at s (placed_at m w.member).member.token).0 name.0
        → AreFound t m (find name (map (named_by m) ws)) (first_of_list (is_named s name) (map (member_by t m) ws))
        → AreFound t m (cond b (Some (named_by m w).1) (find name (map (named_by m) ws)))
        (first_of_list (is_named s name) (member_by t m w ∷ map (member_by t m) ws))
    by true e rest = (w, refl, ap (λ b. cond b (Some (member_by t m w)) (first_of_list (is_named s name) (map (member_by t m) ws))) (sym e))
    by false e rest =
        subst (AreFound t m (find name (map (named_by m) ws)))
        (ap (λ b. cond b (Some (member_by t m w)) (first_of_list (is_named s name) (map (member_by t m) ws))) e) rest
