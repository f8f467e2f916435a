-- The offsets that a map of the code has.
use Rattle.std.proofs.Common.{◌≡◌, ℕ, Bool, true, false, List, [], ◌∷◌, ◌++◌, Some, None, refl, sym, ap, ◌∙◌}
use Rattle.std.specs.Prelude.{Vec, cond}
use Rattle.std.specs.Option.{option_map}
use Rattle.std.specs.Map.{lookup, set_value}
use Rattle.std.specs.BTreeMap.{insert_entry, is_at}
use Rattle.std.specs.Ordering.{match_ordering, nat_cmp}
use Rattle.std.specs.Cmp.Lexicographic.{slice_cmp}
use Rattle.std.specs.declared.alloc.Global.{Global}
use Rattle.std.specs.declared.cmp.Ordering.{Ordering}
use Rattle.std.specs.declared.cmp.Ordering.TheVariants.{Less, Equal, Greater}
use Rattle.cr_plan.specs.Editing.{shown_entry, shown_entries}
use Rattle.cr_plan.specs.Outcome.{behind_others, with_offset}

module _ (test : List ℕ → Bool) where
  lookup_shown : (es : List (List ℕ × Vec ℕ Global)) → lookup test (shown_entries es) ≡ option_map (λ (v : Vec ℕ Global). v.items) (lookup test es)
  lookup_shown [] = refl
  lookup_shown (e ∷ es) = by (test e.0) (lookup_shown es)
    where
      by : (b : Bool) → lookup test (shown_entries es) ≡ option_map (λ (v : Vec ℕ Global). v.items) (lookup test es)
          → cond b (Some e.1.items) (lookup test (shown_entries es)) ≡ option_map (λ (v : Vec ℕ Global). v.items) (cond b (Some e.1) (lookup test es))
      by true h = refl
      by false h = h

  set_shown : (es : List (List ℕ × Vec ℕ Global)) (w : Vec ℕ Global) → shown_entries (set_value test es w) ≡ set_value test (shown_entries es) w.items
  set_shown [] w = refl
  set_shown (e ∷ es) w = by (test e.0) (set_shown es w)
    where
      by : (b : Bool) → shown_entries (set_value test es w) ≡ set_value test (shown_entries es) w.items
          → shown_entries (cond b ((e.0, w) ∷ es) (e ∷ set_value test es w)) ≡ cond b ((e.0, w.items) ∷ shown_entries es) (shown_entry e ∷ set_value test (shown_entries es) w.items)
      by true h = refl
      by false h = ap (λ l. shown_entry e ∷ l) h

insert_shown : (cmp : List ℕ → List ℕ → Ordering) (es : List (List ℕ × Vec ℕ Global)) (k : List ℕ) (v : Vec ℕ Global) → shown_entries (insert_entry cmp es k v) ≡ insert_entry cmp (shown_entries es) k v.items
insert_shown cmp [] k v = refl
insert_shown cmp (e ∷ es) k v = by (cmp k e.0) (insert_shown cmp es k v)
  where
    by : (o : Ordering) → shown_entries (insert_entry cmp es k v) ≡ insert_entry cmp (shown_entries es) k v.items
        → shown_entries (match_ordering o ((k, v) ∷ e ∷ es) ((e.0, v) ∷ es) (e ∷ insert_entry cmp es k v)) ≡ match_ordering o ((k, v.items) ∷ shown_entry e ∷ shown_entries es) ((e.0, v.items) ∷ shown_entries es) (shown_entry e ∷ insert_entry cmp (shown_entries es) k v.items)
    by Less h = refl
    by Equal h = refl
    by Greater h = ap (λ l. shown_entry e ∷ l) h

-- one more offset at a path that has some
pub set_more : (es now : List (List ℕ × Vec ℕ Global)) (path : List ℕ) (offset : ℕ) (was w : Vec ℕ Global) → lookup (is_at (slice_cmp nat_cmp path)) es ≡ Some was → w.items ≡ was.items ++ offset ∷ [] → now ≡ set_value (is_at (slice_cmp nat_cmp path)) es w
    → shown_entries now ≡ with_offset path offset (shown_entries es)
set_more es now path offset was w found more is =
    ap shown_entries is ∙ set_shown (is_at (slice_cmp nat_cmp path)) es w ∙ ap (set_value (is_at (slice_cmp nat_cmp path)) (shown_entries es)) more
    ∙ sym (ap (behind_others path offset (shown_entries es)) (lookup_shown (is_at (slice_cmp nat_cmp path)) es ∙ ap (option_map (λ (v : Vec ℕ Global). v.items)) found))

-- the first offset at a path
pub set_first : (es now : List (List ℕ × Vec ℕ Global)) (path : List ℕ) (offset : ℕ) (w : Vec ℕ Global) → lookup (is_at (slice_cmp nat_cmp path)) es ≡ None → w.items ≡ offset ∷ [] → now ≡ insert_entry (slice_cmp nat_cmp) es path w
    → shown_entries now ≡ with_offset path offset (shown_entries es)
set_first es now path offset w found one is =
    ap shown_entries is ∙ insert_shown (slice_cmp nat_cmp) es path w ∙ ap (insert_entry (slice_cmp nat_cmp) (shown_entries es) path) one
    ∙ sym (ap (behind_others path offset (shown_entries es)) (lookup_shown (is_at (slice_cmp nat_cmp path)) es ∙ ap (option_map (λ (v : Vec ℕ Global). v.items)) found))
