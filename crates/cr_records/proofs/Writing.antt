-- That a member that is written in a record leaves everything as it is kept.
use Rattle.std.proofs.Common.{◌≡◌, ◌≢◌, ◌⊎◌, inl, inr, ℕ, zero, suc, ◌+◌, ◌<◌, Bool, true, false, cond, eqb, ◌&&◌, not, Some, List, [], ◌∷◌, ◌++◌, map, filter, length, slice_get, refl, sym, ap, subst, ◌∙◌, arith, length-append, true≢false}
use Rattle.std.specs.Prelude.{if◌then◌else◌, slice_index_or}
use Rattle.std.proofs.lemmas.List.{append-nil, map-append, get_or_append_left}
use Rattle.std.proofs.lemmas.List.Elements.{filter-append}
use Rattle.std.proofs.lemmas.Bool.Decides.{eqb_tells}
use Rattle.std.proofs.lemmas.Bool.{ne_eqb}
use Rattle.cr_base.specs.declared.token.Name.{Name}
use Rattle.cr_types.specs.declared.RecNo.{RecNo}
use Rattle.cr_types.specs.Types.{Table}
use Rattle.cr_typing.specs.declared.members.MemberData.{MemberData}
use Rattle.cr_typing.specs.declared.members.MemberNo.{MemberNo}
use Rattle.cr_typing.specs.declared.members.Named.{Named}
use Rattle.cr_typing.specs.declared.members.Placed.{Placed}
use Rattle.cr_typing.specs.Members.{Members, Listed, listed, is_empty, placed, next_member}
use Rattle.cr_binding.specs.Source.{Source, name_at}
use Rattle.cr_records.specs.declared.rows.Selector.{Selector}
use Rattle.cr_records.specs.Kept.{RecordTable, Lists, IsKept, AreThere, Writes, with_written, selector_for, no_member, placed_at, name_of, named_by, selects_in, is_written_in, is_ended}
use Rattle.cr_records.specs.Records.{placed_in, member_by, AreSpelledBy}

-- ---- one more member

module _ (old new : Members) (p : Placed) (grown : new.all ≡ old.all ++ p ∷ []) where
  pub placed_stays : (k : MemberNo) → k.0 < length old.all → placed_at new k ≡ placed_at old k
  placed_stays k h = ap (λ l. slice_index_or l k.0 no_member) grown ∙ get_or_append_left old.all (p ∷ []) no_member k.0 h

  pub named_stays : (ws : List Selector) → AreThere old ws → map (named_by new) ws ≡ map (named_by old) ws
  named_stays [] h = refl
  named_stays (w ∷ ws) h =
      let e : placed_at new w.member ≡ placed_at old w.member = placed_stays w.member h.0 in
      let r = named_stays ws h.1 in
      λ j. (name_by (e j), record { member = w.member; token = (e j).member.token }) ∷ r j
    where
      name_by : Placed → Name
      name_by q = name_of q

  pub members_stay : (t : Table) (ws : List Selector) → AreThere old ws → map (member_by t new) ws ≡ map (member_by t old) ws
  members_stay t [] h = refl
  members_stay t (w ∷ ws) h =
      let e : placed_at new w.member ≡ placed_at old w.member = placed_stays w.member h.0 in
      let r = members_stay t ws h.1 in
      λ j. placed_in t w.holder.0 (e j) ∷ r j

  pub spelled_stay : (s : Source) (ws : List Selector) → AreThere old ws → AreSpelledBy s old ws → AreSpelledBy s new ws
  spelled_stay s [] there h = tt
  spelled_stay s (w ∷ ws) there h =
      (subst (λ q. name_of q ≡ name_at s q.member.token) (sym (placed_stays w.member there.0)) h.0, spelled_stay s ws there.1 h.1)

  pub there_stay : (ws : List Selector) → AreThere old ws → AreThere new ws
  there_stay [] h = tt
  there_stay (w ∷ ws) h =
      (let e : length new.all ≡ length old.all + 1 = ap length grown ∙ length-append old.all (p ∷ []) in omega (arith, e, h.0), there_stay ws h.1)

  pub put_at : placed_at new (next_member old) ≡ p
  put_at = ap (λ l. slice_index_or l (length old.all) no_member) grown ∙ by old.all
    where
      by : (ps : List Placed) → slice_index_or (ps ++ p ∷ []) (length ps) no_member ≡ p
      by [] = refl
      by (q ∷ ps) = by ps

-- ---- lists that are seen through numbers

pub get_stays : {A : Type 0} (xs ys : List A) (i : ℕ) (x : A) → slice_get xs i ≡ Some x → slice_get (xs ++ ys) i ≡ Some x
get_stays [] ys i x h = cc
get_stays (z ∷ xs) ys zero x h = h
get_stays (z ∷ xs) ys (suc i) x h = get_stays xs ys i x h

pub get_end : {A : Type 0} (xs : List A) (x : A) → slice_get (xs ++ x ∷ []) (length xs) ≡ Some x
get_end [] x = refl
get_end (z ∷ xs) x = get_end xs x

pub declared_stay : (all more : List Placed) (ks : List MemberNo) (ps : List Placed) → map {A = MemberNo} (λ k. slice_get all k.0) ks ≡ map Some ps
    → map {A = MemberNo} (λ k. slice_get (all ++ more) k.0) ks ≡ map Some ps
declared_stay all more [] [] h = refl
declared_stay all more [] (p ∷ ps) h = cc
declared_stay all more (k ∷ ks) [] h = cc
declared_stay all more (k ∷ ks) (p ∷ ps) h =
    let first : slice_get all k.0 ≡ Some p = cc in
    let rest : map {A = MemberNo} (λ k. slice_get all k.0) ks ≡ map Some ps = cc in
    let e = get_stays all more k.0 p first in
    let r = declared_stay all more ks ps rest in
    λ j. e j ∷ r j

pub there_filter : (m : Members) (p : Selector → Bool) (ws : List Selector) → AreThere m ws → AreThere m (filter p ws)
there_filter m p [] h = tt
there_filter m p (w ∷ ws) h = by (p w) (there_filter m p ws h.1)
  where
    by : (b : Bool) → AreThere m (filter p ws) → AreThere m (cond b (w ∷ filter p ws) (filter p ws))
    by true r = (h.0, r)
    by false r = r

pub there_append : (m : Members) (vs ws : List Selector) → AreThere m vs → AreThere m ws → AreThere m (vs ++ ws)
there_append m [] ws h g = g
there_append m (v ∷ vs) ws h g = (h.0, there_append m vs ws h.1 g)

pub all_for : (r : RecNo) (es : List (Name × Named)) → filter (selects_in r.0) (map (selector_for r) es) ≡ map (selector_for r) es
all_for r [] = refl
all_for r (e ∷ es) = by (eqb_tells r.0 r.0) (all_for r es)
  where
    by : ((eqb r.0 r.0 ≡ true) × (r.0 ≡ r.0)) ⊎ ((eqb r.0 r.0 ≡ false) × (r.0 ≢ r.0)) → filter (selects_in r.0) (map (selector_for r) es) ≡ map (selector_for r) es → filter (selects_in r.0) (map (selector_for r) (e ∷ es)) ≡ map (selector_for r) (e ∷ es)
    by (inl h) rest =
        ap (λ b. cond b (selector_for r e ∷ filter (selects_in r.0) (map (selector_for r) es)) (filter (selects_in r.0) (map (selector_for r) es))) h.0
        ∙ ap (λ l. selector_for r e ∷ l) rest
    by (inr h) rest = absurd (h.1 refl)

pub none_for : (r : RecNo) (q : ℕ) (es : List (Name × Named)) → q ≢ r.0 → filter (selects_in q) (map (selector_for r) es) ≡ []
none_for r q [] ne = refl
none_for r q (e ∷ es) ne =
    ap (λ b. cond b (selector_for r e ∷ filter (selects_in q) (map (selector_for r) es)) (filter (selects_in q) (map (selector_for r) es))) (ne_eqb r.0 q (λ e. ne (sym e)))
    ∙ none_for r q es ne

pub not_empty : (ks : List MemberNo) (k : MemberNo) → is_empty (ks ++ k ∷ []) ≡ false
not_empty [] k = refl
not_empty (j ∷ ks) k = refl

pub eqb_itself : (q : ℕ) → eqb q q ≡ true
eqb_itself q = by (eqb_tells q q)
  where
    by : ((eqb q q ≡ true) × (q ≡ q)) ⊎ ((eqb q q ≡ false) × (q ≢ q)) → eqb q q ≡ true
    by (inl h) = h.0
    by (inr h) = absurd (h.1 refl)

-- ---- a member is written

module _ (x : RecordTable) (new : Members) (member : MemberData) (named : List (Name × Named)) (kept : IsKept x)
    (writes : Writes (is_ended x.ended member.rec.0) x.typing member named new)
    (there : AreThere new (map (selector_for member.rec) named))
    (told : map (named_by new) (map (selector_for member.rec) named) ≡ named) where
  abbrev pub written : RecordTable
  written =
      record {
        records = x.records;
        typing = new;
        selectors = x.selectors ++ map (selector_for member.rec) named;
        completed = x.completed;
        ended = x.ended;
      }

  abbrev pub more : List Selector
  more = map (selector_for member.rec) named

  abbrev pub r : ℕ
  r = member.rec.0

  abbrev pub n : MemberNo
  n = next_member x.typing

  abbrev pub this : Listed
  this = with_written (is_ended x.ended r) (listed x.typing r) n named

  -- those of the other records
  other_names : (q : ℕ) → q ≢ r → map (named_by new) (filter (selects_in q) written.selectors) ≡ map (named_by x.typing) (filter (selects_in q) x.selectors)
  other_names q ne =
      ap (map (named_by new)) (filter-append (selects_in q) x.selectors more ∙ ap (λ l. filter (selects_in q) x.selectors ++ l) (none_for member.rec q named ne) ∙ append-nil (filter (selects_in q) x.selectors))
      ∙ named_stays x.typing new (placed x.typing member) writes.all (filter (selects_in q) x.selectors) (there_filter x.typing (selects_in q) x.selectors kept.there)

  these_names : map (named_by new) (filter (selects_in r) written.selectors) ≡ (listed x.typing r).named ++ named
  these_names =
      ap (map (named_by new)) (filter-append (selects_in r) x.selectors more ∙ ap (λ l. filter (selects_in r) x.selectors ++ l) (all_for member.rec named))
      ∙ map-append (named_by new) (filter (selects_in r) x.selectors) more
      ∙ ap (λ l. l ++ map (named_by new) more) (named_stays x.typing new (placed x.typing member) writes.all (filter (selects_in r) x.selectors) (there_filter x.typing (selects_in r) x.selectors kept.there) ∙ sym (kept.lists r).named)
      ∙ ap (λ l. (listed x.typing r).named ++ l) told

  old_declared : (q : ℕ) → map {A = MemberNo} (λ k. slice_get new.all k.0) (listed x.typing q).declared ≡ map Some (filter (is_written_in q) x.typing.all)
  old_declared q =
      ap (λ l. map {A = MemberNo} (λ k. slice_get l k.0) (listed x.typing q).declared) writes.all
      ∙ declared_stay x.typing.all (placed x.typing member ∷ []) (listed x.typing q).declared (filter (is_written_in q) x.typing.all) (kept.lists q).declared

  other_declared : (q : ℕ) → q ≢ r → map {A = MemberNo} (λ k. slice_get new.all k.0) (listed x.typing q).declared ≡ map Some (filter (is_written_in q) new.all)
  other_declared q ne =
      old_declared q
      ∙ ap (map Some)
      (sym (ap (filter (is_written_in q)) writes.all
      ∙ filter-append (is_written_in q) x.typing.all (placed x.typing member ∷ [])
      ∙ ap (λ b. filter (is_written_in q) x.typing.all ++ cond b (placed x.typing member ∷ []) []) (ne_eqb r q (λ e. ne (sym e)))
      ∙ append-nil (filter (is_written_in q) x.typing.all)))

  these_declared : map {A = MemberNo} (λ k. slice_get new.all k.0) ((listed x.typing r).declared ++ n ∷ []) ≡ map Some (filter (is_written_in r) new.all)
  these_declared =
      map-append (λ (k : MemberNo). slice_get new.all k.0) (listed x.typing r).declared (n ∷ [])
      ∙ (λ j. old_declared r j ++ (ap (λ l. slice_get l n.0) writes.all ∙ get_end x.typing.all (placed x.typing member)) j ∷ [])
      ∙ sym (map-append Some (filter (is_written_in r) x.typing.all) (placed x.typing member ∷ []))
      ∙ ap (map Some)
      (sym (ap (filter (is_written_in r)) writes.all
      ∙ filter-append (is_written_in r) x.typing.all (placed x.typing member ∷ [])
      ∙ ap (λ b. filter (is_written_in r) x.typing.all ++ cond b (placed x.typing member ∷ []) []) (eqb_itself r)))

  this_ended : this.ended ≡ (is_ended x.ended r && not (is_empty this.declared))
  this_ended = by (is_ended x.ended r) (kept.lists r).ended
    where
      by : (b : Bool) → (listed x.typing r).ended ≡ (b && not (is_empty (listed x.typing r).declared))
          → (if b then true else (listed x.typing r).ended) ≡ (b && not (is_empty ((listed x.typing r).declared ++ n ∷ [])))
      by true h = sym (ap not (not_empty (listed x.typing r).declared n))
      by false h = h

  this_listed : (y : Listed) → y ≡ this
      → (y.named ≡ map (named_by new) (filter (selects_in r) written.selectors))
      × (map {A = MemberNo} (λ k. slice_get new.all k.0) y.declared ≡ map Some (filter (is_written_in r) new.all))
      × (y.ended ≡ (is_ended x.ended r && not (is_empty y.declared)))
      × (is_empty y.declared ≡ true → y.named ≡ [])
  this_listed y e = (
    ap (λ z. z.named) e ∙ sym these_names,
    ap (λ z. map {A = MemberNo} (λ k. slice_get new.all k.0) z.declared) e ∙ these_declared,
    ap (λ z. z.ended) e ∙ this_ended ∙ ap (λ z. is_ended x.ended r && not (is_empty z.declared)) (sym e),
    λ none. absurd (true≢false (sym none ∙ ap (λ z. is_empty z.declared) e ∙ not_empty (listed x.typing r).declared n)),
  )

  other_listed : (q : ℕ) → q ≢ r → (y : Listed) → y ≡ listed x.typing q
      → (y.named ≡ map (named_by new) (filter (selects_in q) written.selectors))
      × (map {A = MemberNo} (λ k. slice_get new.all k.0) y.declared ≡ map Some (filter (is_written_in q) new.all))
      × (y.ended ≡ (is_ended x.ended q && not (is_empty y.declared)))
      × (is_empty y.declared ≡ true → y.named ≡ [])
  other_listed q ne y e = (
    ap (λ z. z.named) e ∙ (kept.lists q).named ∙ sym (other_names q ne),
    ap (λ z. map {A = MemberNo} (λ k. slice_get new.all k.0) z.declared) e ∙ other_declared q ne,
    ap (λ z. z.ended) e ∙ (kept.lists q).ended ∙ ap (λ z. is_ended x.ended q && not (is_empty z.declared)) (sym e),
    λ none. ap (λ z. z.named) e ∙ (kept.lists q).unnamed (ap (λ z. is_empty z.declared) (sym e) ∙ none),
  )

  lists_from : (q : ℕ) → ((listed new q).named ≡ map (named_by new) (filter (selects_in q) written.selectors))
      × (map {A = MemberNo} (λ k. slice_get new.all k.0) (listed new q).declared ≡ map Some (filter (is_written_in q) new.all))
      × ((listed new q).ended ≡ (is_ended x.ended q && not (is_empty (listed new q).declared)))
      × (is_empty (listed new q).declared ≡ true → (listed new q).named ≡ []) → Lists written q
  lists_from q h = record { named = h.0; declared = h.1; ended = h.2; unnamed = h.3 }

  pub writing_keeps : IsKept written
  writing_keeps =
      record {
        there = there_append new x.selectors more (there_stay x.typing new (placed x.typing member) writes.all x.selectors kept.there) there;
        lists = λ q. by q (eqb_tells q r);
      }
    where
      by : (q : ℕ) → ((eqb q r ≡ true) × (q ≡ r)) ⊎ ((eqb q r ≡ false) × (q ≢ r)) → Lists written q
      by q (inl h) = subst (Lists written) (sym h.1) (lists_from r (this_listed (listed new r) writes.this))
      by q (inr h) = lists_from q (other_listed q h.1 (listed new q) (writes.others q h.1))
