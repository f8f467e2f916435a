-- A law of the words of a command: words that are written in single quotes are read back, whatever their bytes are.
use Rattle.std.proofs.Common.{◌≡◌, ℕ, ◌==◌, Bool, true, false, List, [], ◌∷◌, ◌++◌, refl, sym, ap, ◌∙◌, append_assoc}
use Rattle.std.specs.Prelude.{Option, Some, None, option_map, if◌then◌else◌}
use Rattle.std.specs.List.{flat_map, filter_map, slice_split}
use Rattle.std.proofs.lemmas.Bool.{eqb-true}
use Rattle.cr_compdb.specs.declared.command.Piece.{Piece}
use Rattle.cr_compdb.specs.declared.command.Piece.TheVariants as piece
use Rattle.cr_compdb.specs.Command.{bare, single, byte_of, is_gap, words_in, command_words, then_more}
use Rattle.cr_compdb.specs.Modes.{behind}

-- a byte inside single quotes; a single quote itself closes them, stands behind a backslash, and opens them again
abbrev pub quoted_byte : ℕ → List ℕ
quoted_byte byte = if byte == 39 then 39 ∷ 92 ∷ 39 ∷ 39 ∷ [] else byte ∷ []

-- a word in single quotes, with a blank behind it
abbrev pub quoted_word : List ℕ → List ℕ
quoted_word word = 39 ∷ flat_map quoted_byte word ++ 39 ∷ 32 ∷ []

-- the pieces of a byte in single quotes
abbrev pieces_of_byte : ℕ → List Piece
pieces_of_byte byte = if byte == 39 then piece.Byte 39 ∷ piece.Quote ∷ [] else piece.Byte byte ∷ []

behind-nil : (more : Option (List Piece)) → behind [] more ≡ more
behind-nil None = refl
behind-nil (Some pieces) = refl

behind-behind : (xs ys : List Piece) (more : Option (List Piece)) → behind xs (behind ys more) ≡ behind (xs ++ ys) more
behind-behind xs ys None = refl
behind-behind xs ys (Some pieces) = ap Some (sym (append_assoc xs ys pieces))

two_more : (x y : Piece) (more : Option (List Piece)) → then_more x (then_more y more) ≡ behind (x ∷ y ∷ []) more
two_more x y None = refl
two_more x y (Some pieces) = refl

one_byte : (byte : ℕ) (quote : Bool) → (byte == 39) ≡ quote → (more : List ℕ)
    → single ((if quote then 39 ∷ 92 ∷ 39 ∷ 39 ∷ [] else byte ∷ []) ++ more) ≡ behind (if quote then piece.Byte 39 ∷ piece.Quote ∷ [] else piece.Byte byte ∷ []) (single more)
one_byte byte true e more = two_more (piece.Byte 39) piece.Quote (single more)
one_byte byte false e more = rw e refl

single-quoted : (word rest : List ℕ) → single (flat_map quoted_byte word ++ 39 ∷ rest) ≡ behind (flat_map pieces_of_byte word) (bare rest)
single-quoted [] rest = sym (behind-nil (bare rest))
single-quoted (byte ∷ word) rest =
    ap single (append_assoc (quoted_byte byte) (flat_map quoted_byte word) (39 ∷ rest)) ∙ one_byte byte (byte == 39) refl (flat_map quoted_byte word ++ 39 ∷ rest) ∙ ap (behind (pieces_of_byte byte)) (single-quoted word rest) ∙ behind-behind (pieces_of_byte byte) (flat_map pieces_of_byte word) (bare rest)

-- the pieces of a word in quotes, and the gap behind it
abbrev pieces_of_word : List ℕ → List Piece
pieces_of_word word = piece.Quote ∷ flat_map pieces_of_byte word ++ piece.Gap ∷ []

then_gap : (xs : List Piece) (more : Option (List Piece)) → then_more piece.Quote (behind xs (then_more piece.Gap more)) ≡ behind (piece.Quote ∷ xs ++ piece.Gap ∷ []) more
then_gap xs None = refl
then_gap xs (Some pieces) = ap (λ ps. Some (piece.Quote ∷ ps)) (sym (append_assoc xs (piece.Gap ∷ []) pieces))

bare-word : (word rest : List ℕ) → bare (quoted_word word ++ rest) ≡ behind (pieces_of_word word) (bare rest)
bare-word word rest =
    ap (λ text. then_more piece.Quote (single text)) (append_assoc (flat_map quoted_byte word) (39 ∷ 32 ∷ []) rest) ∙ ap (then_more piece.Quote) (single-quoted word (32 ∷ rest)) ∙ then_gap (flat_map pieces_of_byte word) (bare rest)

bare-words : (words : List (List ℕ)) → bare (flat_map quoted_word words) ≡ Some (flat_map pieces_of_word words)
bare-words [] = refl
bare-words (word ∷ words) = bare-word word (flat_map quoted_word words) ∙ ap (behind (pieces_of_word word)) (bare-words words)

split_byte : (byte : ℕ) (quote : Bool) (more first : List Piece) (others : List (List Piece)) → slice_split is_gap more ≡ first ∷ others
    → slice_split is_gap ((if quote then piece.Byte 39 ∷ piece.Quote ∷ [] else piece.Byte byte ∷ []) ++ more) ≡ ((if quote then piece.Byte 39 ∷ piece.Quote ∷ [] else piece.Byte byte ∷ []) ++ first) ∷ others
split_byte byte true more first others e = rw e refl
split_byte byte false more first others e = rw e refl

split-word : (word : List ℕ) (rest : List Piece) → slice_split is_gap (flat_map pieces_of_byte word ++ piece.Gap ∷ rest) ≡ flat_map pieces_of_byte word ∷ slice_split is_gap rest
split-word [] rest = refl
split-word (byte ∷ word) rest =
    ap (slice_split is_gap) (append_assoc (pieces_of_byte byte) (flat_map pieces_of_byte word) (piece.Gap ∷ rest)) ∙ split_byte byte (byte == 39) _ _ _ (split-word word rest)

bytes_of_byte : (byte : ℕ) (quote : Bool) → (byte == 39) ≡ quote → (more : List Piece) → filter_map byte_of ((if quote then piece.Byte 39 ∷ piece.Quote ∷ [] else piece.Byte byte ∷ []) ++ more) ≡ byte ∷ filter_map byte_of more
bytes_of_byte byte true e more = ap (λ b. b ∷ filter_map byte_of more) (sym (eqb-true byte 39 e))
bytes_of_byte byte false e more = refl

bytes-word : (word : List ℕ) → filter_map byte_of (flat_map pieces_of_byte word) ≡ word
bytes-word [] = refl
bytes-word (byte ∷ word) = bytes_of_byte byte (byte == 39) refl (flat_map pieces_of_byte word) ∙ ap (λ w. byte ∷ w) (bytes-word word)

words_in-words : (words : List (List ℕ)) → words_in (flat_map pieces_of_word words) ≡ words
words_in-words [] = refl
words_in-words (word ∷ words) =
    let parted = ap (slice_split is_gap) (append_assoc (flat_map pieces_of_byte word) (piece.Gap ∷ []) (flat_map pieces_of_word words)) ∙ split-word word (flat_map pieces_of_word words) in
    rw (parted, bytes-word word, words_in-words words) refl

-- Words in single quotes are read back.
pub command_words-quoted : (words : List (List ℕ)) → command_words (flat_map quoted_word words) ≡ Some words
unfolding command_words
command_words-quoted words = ap (option_map words_in) (bare-words words) ∙ ap Some (words_in-words words)
