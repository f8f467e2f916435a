-- What binding sees of records by their numbers.
use Rattle.std.proofs.Common.{◌≡◌, ℕ, Bool, true, false, cond, eqb, ◌||◌, Some, List, [], ◌∷◌, map, filter, length, slice_get, refl, sym, ap, subst, ◌∙◌}
use Rattle.std.specs.List.{list_any}
use Rattle.std.proofs.lemmas.List.{length-map}
use Rattle.cr_types.specs.declared.RecNo.{RecNo}
use Rattle.cr_types.specs.Types.{Table, type_at}
use Rattle.cr_typing.specs.declared.members.MemberNo.{MemberNo}
use Rattle.cr_typing.specs.declared.members.Placed.{Placed}
use Rattle.cr_typing.specs.Members.{Members, listed}
use Rattle.cr_binding.specs.Source.{Source}
use Rattle.cr_binding.specs.State.{Written, Member, State}
use Rattle.cr_binding.specs.RecordMembers.{written_in, members_of, is_complete}
use Rattle.cr_records.specs.declared.rows.Selector.{Selector}
use Rattle.cr_records.specs.Kept.{RecordTable, IsKept, selects_in, is_written_in, is_ended}
use Rattle.cr_records.specs.Records.{with_records, written_by, member_by, AreSpelledBy, AreSpelled}
use Rattle.cr_records.proofs.Same.{AreSame, same_names}

pub filter_map : {A B : Type 0} (p : B → Bool) (f : A → B) (xs : List A) → filter p (map f xs) ≡ map f (filter (λ x. p (f x)) xs)
filter_map p f [] = refl
filter_map p f (x ∷ xs) = by (p (f x)) (filter_map p f xs)
  where
    by : (b : Bool) → filter p (map f xs) ≡ map f (filter (λ z. p (f z)) xs) → cond b (f x ∷ filter p (map f xs)) (filter p (map f xs)) ≡ map f (cond b (x ∷ filter (λ z. p (f z)) xs) (filter (λ z. p (f z)) xs))
    by true e = ap (λ l. f x ∷ l) e
    by false e = e

pub map_map : {A B C : Type 0} (g : B → C) (f : A → B) (xs : List A) → map g (map f xs) ≡ map (λ x. g (f x)) xs
map_map g f [] = refl
map_map g f (x ∷ xs) = ap (λ l. g (f x) ∷ l) (map_map g f xs)

pub spelled_filter : (s : Source) (m : Members) (p : Selector → Bool) (ws : List Selector) → AreSpelledBy s m ws → AreSpelledBy s m (filter p ws)
spelled_filter s m p [] h = tt
spelled_filter s m p (w ∷ ws) h = by (p w) (spelled_filter s m p ws h.1)
  where
    by : (b : Bool) → AreSpelledBy s m (filter p ws) → AreSpelledBy s m (cond b (w ∷ filter p ws) (filter p ws))
    by true r = (h.0, r)
    by false r = r

module _ (t : Table) (x : RecordTable) (s : State) where
  abbrev pub seen : State
  seen = with_records t x s

  -- the members that select in a record
  pub members_seen : (r : ℕ) → members_of seen r ≡ map (member_by t x.typing) (filter (selects_in r) x.selectors)
  members_seen r = filter_map (λ (m : Member). eqb m.holder r) (member_by t x.typing) x.selectors

  -- the types that are written in it
  pub written_seen : (r : ℕ) → written_in seen r ≡ map {A = Placed} (λ p. type_at t p.member.ty) (filter (is_written_in r) x.typing.all)
  written_seen r =
      ap (map {A = Written} (λ w. w.type)) (filter_map (λ (w : Written). eqb w.holder r) (written_by t) x.typing.all)
      ∙ map_map (λ (w : Written). w.type) (written_by t) (filter (is_written_in r) x.typing.all)

  pub complete_seen : (r : ℕ) → is_complete seen r ≡ is_ended x.ended r
  complete_seen r = by x.ended
    where
      by : (ks : List RecNo) → list_any (eqb r) (map {A = RecNo} (λ k. k.0) ks) ≡ is_ended ks r
      by [] = refl
      by (k ∷ ks) = ap (λ b. eqb r k.0 || b) (by ks)

  -- the names that are kept of a record are those of its members
  pub names_seen : (source : Source) (r : ℕ) → IsKept x → AreSpelled source x → AreSame source (listed x.typing r).named (members_of seen r)
  names_seen source r kept spelled =
      subst (AreSame source (listed x.typing r).named) (sym (members_seen r))
      (subst (λ es. AreSame source es (map (member_by t x.typing) (filter (selects_in r) x.selectors))) (sym (kept.lists r).named)
      (same_names source t x.typing (filter (selects_in r) x.selectors) (spelled_filter source x.typing (selects_in r) x.selectors spelled)))

  -- as many are listed as are written
  pub count_seen : (r : ℕ) → IsKept x → length (listed x.typing r).declared ≡ length (written_in seen r)
  count_seen r kept =
      sym (length-map (listed x.typing r).declared (λ (k : MemberNo). slice_get x.typing.all k.0))
      ∙ ap length (kept.lists r).declared
      ∙ length-map (filter (is_written_in r) x.typing.all) Some
      ∙ sym (length-map (filter (is_written_in r) x.typing.all) (λ (p : Placed). type_at t p.member.ty))
      ∙ ap length (sym (written_seen r))
