-- A list of values that is gone through from its front.
use Rattle.std.proofs.Common.{◌≡◌, ℕ, ◌+◌, ◌<◌, List, [], ◌∷◌, ◌++◌, length, get_or, drop, refl, sym, ap, ◌∙◌, append_assoc}
use Rattle.std.specs.Prelude.{Option, Some, None, Result, Ok, Err, option_map}
use Rattle.std.proofs.lemmas.List.{drop_more}
use Rattle.serde_json.specs.Find.{as_str}
use Rattle.serde_json.specs.View.{view, items_view}
use Rattle.serde_json.specs.declared.value.Value.{Value}
use Rattle.cr_compdb.specs.declared.entry.Entry.{Entry}
use Rattle.cr_compdb.specs.declared.entry.DbFault.{DbFault}
use Rattle.cr_compdb.specs.Database.{texts_of, entries_from, entry_of, ◌>>=◌}

-- texts, and those that follow
abbrev pub behind_texts : List (List ℕ) → Option (List (List ℕ)) → Option (List (List ℕ))
behind_texts found more = option_map (λ texts. found ++ texts) more

-- entries, and those that follow
abbrev pub behind_entries : List Entry → Result (List Entry) DbFault → Result (List Entry) DbFault
behind_entries found more = more >>= (λ entries. Ok (found ++ entries))

one_text : (found : List (List ℕ)) (text : List ℕ) (more : Option (List (List ℕ))) → behind_texts found (option_map (λ texts. text ∷ texts) more) ≡ behind_texts (found ++ text ∷ []) more
one_text found text None = refl
one_text found text (Some texts) = ap Some (sym (append_assoc found (text ∷ []) texts))

one_entry : (found : List Entry) (entry : Entry) (more : Result (List Entry) DbFault) → behind_entries found (more >>= (λ rest. Ok (entry ∷ rest))) ≡ behind_entries (found ++ entry ∷ []) more
one_entry found entry (Ok rest) = ap Ok (sym (append_assoc found (entry ∷ []) rest))
one_entry found entry (Err f) = refl

-- one more text was found
pub text_taken : (items : List Value) (i : ℕ) (item : Value) (text : List ℕ) (found : List (List ℕ)) → i < length items → item ≡ get_or items i item → as_str (view item) ≡ Some text
    → behind_texts found (texts_of (items_view (drop i items))) ≡ behind_texts (found ++ text ∷ []) (texts_of (items_view (drop (i + 1) items)))
text_taken items i item text found lt at is =
    let head : drop i items ≡ item ∷ drop (i + 1) items = drop_more items i item lt ∙ ap (λ (x : Value). x ∷ drop (i + 1) items) (sym at) in
    rw (head, is) (one_text found text (texts_of (items_view (drop (i + 1) items))))

-- an item is no text
pub no_text : (items : List Value) (i : ℕ) (item : Value) (found : List (List ℕ)) → i < length items → item ≡ get_or items i item → as_str (view item) ≡ None
    → behind_texts found (texts_of (items_view (drop i items))) ≡ None
no_text items i item found lt at is =
    let head : drop i items ≡ item ∷ drop (i + 1) items = drop_more items i item lt ∙ ap (λ (x : Value). x ∷ drop (i + 1) items) (sym at) in
    rw (head, is) refl

-- one more entry was read
pub entry_taken : (items : List Value) (i : ℕ) (item : Value) (entry : Entry) (found : List Entry) → i < length items → item ≡ get_or items i item → entry_of i (view item) ≡ Ok entry
    → behind_entries found (entries_from i (items_view (drop i items))) ≡ behind_entries (found ++ entry ∷ []) (entries_from (i + 1) (items_view (drop (i + 1) items)))
entry_taken items i item entry found lt at is =
    let head : drop i items ≡ item ∷ drop (i + 1) items = drop_more items i item lt ∙ ap (λ (x : Value). x ∷ drop (i + 1) items) (sym at) in
    rw (head, is) (one_entry found entry (entries_from (i + 1) (items_view (drop (i + 1) items))))

-- an item is refused
pub entry_refused : (items : List Value) (i : ℕ) (item : Value) (f : DbFault) (found : List Entry) → i < length items → item ≡ get_or items i item → entry_of i (view item) ≡ Err f
    → behind_entries found (entries_from i (items_view (drop i items))) ≡ Err f
entry_refused items i item f found lt at is =
    let head : drop i items ≡ item ∷ drop (i + 1) items = drop_more items i item lt ∙ ap (λ (x : Value). x ∷ drop (i + 1) items) (sym at) in
    rw (head, is) refl
