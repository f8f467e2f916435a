-- That the end of a record's list leaves everything as it is kept.
use Rattle.std.proofs.Common.{◌≡◌, ◌≢◌, ◌⊎◌, inl, inr, ℕ, Bool, true, false, eqb, ◌&&◌, ◌||◌, not, Some, List, [], ◌∷◌, ◌++◌, map, filter, slice_get, refl, sym, ap, subst, ◌∙◌}
use Rattle.std.specs.Prelude.{if◌then◌else◌}
use Rattle.std.proofs.lemmas.List.Folds.{list_any-append}
use Rattle.std.proofs.lemmas.Bool.Decides.{eqb_tells}
use Rattle.std.proofs.lemmas.Bool.{ne_eqb}
use Rattle.cr_types.specs.declared.RecNo.{RecNo}
use Rattle.cr_typing.specs.declared.members.MemberNo.{MemberNo}
use Rattle.cr_typing.specs.declared.members.Placed.{Placed}
use Rattle.cr_typing.specs.Members.{Members, listed, is_empty, ended, Ends}
use Rattle.cr_binding.specs.Source.{Source}
use Rattle.cr_records.specs.declared.rows.Selector.{Selector}
use Rattle.cr_records.specs.Kept.{RecordTable, Lists, IsKept, AreThere, AreEnded, named_by, selects_in, is_written_in, is_ended}
use Rattle.cr_records.specs.Records.{AreSpelledBy}
use Rattle.cr_records.proofs.Writing.{eqb_itself}

-- ---- the records that ended

or_false : (b : Bool) → (b || false) ≡ b
or_false true = refl
or_false false = refl

or_true : (b : Bool) → (b || true) ≡ true
or_true true = refl
or_true false = refl

pub ended_push : (ks : List RecNo) (r : RecNo) (q : ℕ) → is_ended (ks ++ r ∷ []) q ≡ (is_ended ks q || eqb q r.0)
ended_push ks r q = list_any-append (λ (k : RecNo). eqb q k.0) ks (r ∷ []) ∙ ap (λ b. is_ended ks q || b) (or_false (eqb q r.0))

pub ended_insert : (ks : List RecNo) (r : RecNo) (q : ℕ) → is_ended (if is_ended ks r.0 then ks else ks ++ r ∷ []) q ≡ (is_ended ks q || eqb q r.0)
ended_insert ks r q = by (is_ended ks r.0) refl
  where
    there : is_ended ks r.0 ≡ true → ((eqb q r.0 ≡ true) × (q ≡ r.0)) ⊎ ((eqb q r.0 ≡ false) × (q ≢ r.0)) → is_ended ks q ≡ (is_ended ks q || eqb q r.0)
    there e (inl h) = ap (is_ended ks) h.1 ∙ e ∙ sym (ap (λ b. is_ended ks q || b) h.0 ∙ or_true (is_ended ks q))
    there e (inr h) = sym (ap (λ b. is_ended ks q || b) h.0 ∙ or_false (is_ended ks q))

    by : (b : Bool) → is_ended ks r.0 ≡ b → is_ended (if b then ks else ks ++ r ∷ []) q ≡ (is_ended ks q || eqb q r.0)
    by true e = there e (eqb_tells q r.0)
    by false e = ended_push ks r q

pub are_ended : (ended set : List RecNo) (r : RecNo) → AreEnded ended set → AreEnded (ended ++ r ∷ []) (if is_ended set r.0 then set else set ++ r ∷ [])
are_ended ended set r h q = ended_insert set r q ∙ ap (λ b. b || eqb q r.0) (h q) ∙ sym (ended_push ended r q)

-- ---- the list of a record

module _ (x : RecordTable) (r : RecNo) (new : Members) (ends : Ends x.typing r new) (kept : IsKept x) where
  abbrev pub ended_table : RecordTable
  ended_table = record { records = x.records; typing = new; selectors = x.selectors; completed = x.completed; ended = x.ended ++ r ∷ [] }

  names_alike : (ws : List Selector) → map (named_by x.typing) ws ≡ map (named_by new) ws
  names_alike ws = ap (λ (l : List Placed). map (named_by (record { all = l; records = [] })) ws) (sym ends.all)

  declared_alike : (ks : List MemberNo) → map {A = MemberNo} (λ k. slice_get new.all k.0) ks ≡ map {A = MemberNo} (λ k. slice_get x.typing.all k.0) ks
  declared_alike ks = ap (λ l. map {A = MemberNo} (λ k. slice_get l k.0) ks) ends.all

  written_alike : (q : ℕ) → map Some (filter (is_written_in q) x.typing.all) ≡ map Some (filter (is_written_in q) new.all)
  written_alike q = ap (λ l. map Some (filter (is_written_in q) l)) (sym ends.all)

  lists_of : (q : ℕ) → (listed new q).named ≡ (listed x.typing q).named → (listed new q).declared ≡ (listed x.typing q).declared
      → (listed new q).ended ≡ (is_ended ended_table.ended q && not (is_empty (listed new q).declared)) → Lists ended_table q
  lists_of q named declared is_ended_there = record {
    named = named ∙ (kept.lists q).named ∙ names_alike (filter (selects_in q) x.selectors);
    declared = ap (map {A = MemberNo} (λ k. slice_get new.all k.0)) declared ∙ declared_alike (listed x.typing q).declared ∙ (kept.lists q).declared ∙ written_alike q;
    ended = is_ended_there;
    unnamed = λ none. named ∙ (kept.lists q).unnamed (ap is_empty (sym declared) ∙ none);
  }

  this_ended : (listed new r.0).ended ≡ (is_ended ended_table.ended r.0 && not (is_empty (listed new r.0).declared))
  this_ended =
      ap (λ y. y.ended) ends.this
      ∙ ap (λ y. not (is_empty y.declared)) (sym ends.this)
      ∙ ap (λ b. b && not (is_empty (listed new r.0).declared)) (sym (ended_push x.ended r r.0 ∙ ap (λ b. is_ended x.ended r.0 || b) (eqb_itself r.0) ∙ or_true (is_ended x.ended r.0)))

  other_ended : (q : ℕ) → q ≢ r.0 → (listed new q).ended ≡ (is_ended ended_table.ended q && not (is_empty (listed new q).declared))
  other_ended q ne =
      ap (λ y. y.ended) (ends.others q ne)
      ∙ (kept.lists q).ended
      ∙ ap (λ y. is_ended x.ended q && not (is_empty y.declared)) (sym (ends.others q ne))
      ∙ ap (λ b. b && not (is_empty (listed new q).declared)) (sym (ended_push x.ended r q ∙ ap (λ b. is_ended x.ended q || b) (ne_eqb q r.0 ne) ∙ or_false (is_ended x.ended q)))

  pub ending_keeps : IsKept ended_table
  ending_keeps = record { there = there_alike x.selectors kept.there; lists = λ q. by q (eqb_tells q r.0) }
    where
      there_alike : (ws : List Selector) → AreThere x.typing ws → AreThere new ws
      there_alike ws h = subst (λ (l : List Placed). AreThere (record { all = l; records = [] }) ws) (sym ends.all) h

      by : (q : ℕ) → ((eqb q r.0 ≡ true) × (q ≡ r.0)) ⊎ ((eqb q r.0 ≡ false) × (q ≢ r.0)) → Lists ended_table q
      by q (inl h) = subst (Lists ended_table) (sym h.1) (lists_of r.0 (ap (λ y. y.named) ends.this) (ap (λ y. y.declared) ends.this) this_ended)
      by q (inr h) = lists_of q (ap (λ y. y.named) (ends.others q h.1)) (ap (λ y. y.declared) (ends.others q h.1)) (other_ended q h.1)

pub spelled_alike : (source : Source) (old new : Members) (ws : List Selector) → new.all ≡ old.all → AreSpelledBy source old ws → AreSpelledBy source new ws
spelled_alike source old new ws e h = subst (λ (l : List Placed). AreSpelledBy source (record { all = l; records = [] }) ws) (sym e) h
