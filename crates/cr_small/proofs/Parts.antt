-- What the reader finds is what each token does in a tree.
use Rattle.std.proofs.Common.{◌≡◌, ℕ, ◌+◌, ◌-◌, ◌<◌, ◌≤◌, Bool, true, false, List, [], ◌∷◌, ◌++◌, length, map, take, drop, get_or, Option, Some, None, refl, sym, ap, ◌∙◌, append_assoc, append-nil}
use Rattle.std.specs.Prelude.{if◌then◌else◌}
use Rattle.std.specs.Option.{option_map}
use Rattle.std.proofs.lemmas.List.{drop_more, drop_all, take_rest}
use Rattle.cr_lex.specs.Lexing.{Token}
use Rattle.cr_base.specs.declared.token.PpTok.{PpTok}
use Rattle.cr_base.specs.declared.token.PpKind.TheVariants.{Ident}
use Rattle.cr_base.specs.declared.token.Origin.TheVariants.{At}
use Rattle.cr_lex.specs.Seen.{seen}
use Rattle.cr_small.specs.Terminals.{terminal_of}
use Rattle.cr_small.specs.Tree.{Leaf, leaves, parts}
use Rattle.cr_small.specs.Derivation.{HasParts}
use Rattle.cr_small.specs.Machine.{step, run, is_end, opens, opens_next}
use Rattle.cr_small.specs.declared.terminal.Terminal.{Terminal}
use Rattle.cr_small.specs.declared.grammar.Part.{Part}
use Rattle.cr_small.specs.declared.grammar.Level.TheVariants as level
use Rattle.cr_small.specs.declared.grammar.State.{State}
use Rattle.cr_small.specs.declared.grammar.State.TheVariants as state
use Rattle.cr_small.specs.declared.grammar.Move.{Move}
use Rattle.cr_small.proofs.Reading.{terminals, reads-tree, sound}

abbrev pub terminals_of : List Token → List Terminal
terminals_of tokens = map (λ t. terminal_of t.text) tokens

abbrev pub read : State → List Token → Option (List Part)
read s tokens = option_map (map (λ l. l.part)) (run s (terminals_of tokens))

opens-terminals : (tokens : List Token) → opens_next (terminals_of tokens) ≡ opens tokens
opens-terminals [] = refl
opens-terminals (t ∷ ts) = refl

pub read-move : (s : State) (t : Token) (ts : List Token) (m : Move) → step s (terminal_of t.text) (opens ts) ≡ Some m → read s (t ∷ ts) ≡ option_map (λ ps. m.part ∷ ps) (read m.next ts)
read-move s t ts m e = rw (opens-terminals ts, e) (by (run m.next (terminals_of ts)))
  where
    by : (o : Option (List Leaf)) → option_map (map (λ l. l.part)) (option_map (λ ls. (record { terminal = terminal_of t.text; part = m.part }) ∷ ls) o) ≡ option_map (λ ps. m.part ∷ ps) (option_map (map (λ l. l.part)) o)
    by None = refl
    by (Some ls) = refl

pub read-stop : (s : State) (t : Token) (ts : List Token) → step s (terminal_of t.text) (opens ts) ≡ None → read s (t ∷ ts) ≡ None
read-stop s t ts e = rw (opens-terminals ts, e) refl

pub read-end : (s : State) (b : Bool) → is_end s ≡ b → read s [] ≡ (if b then Some [] else None)
read-end s true e = rw e refl
read-end s false e = rw e refl

pub has_parts : (tokens : List Token) (found : Option (List Part)) → read (state.Start level.File) tokens ≡ found → HasParts tokens found
has_parts tokens None e = λ tree derives.
    let r : run (state.Start level.File) (terminals_of tokens) ≡ Some (leaves tree) = ap (run (state.Start level.File)) derives ∙ reads-tree tree in
    let m : read (state.Start level.File) tokens ≡ Some (parts tree) = ap (option_map (map (λ l. l.part))) r in
    let no : Some (parts tree) ≡ None = sym m ∙ e in cc
has_parts tokens (Some does) e = by (run (state.Start level.File) (terminals_of tokens)) refl e
  where
    by : (o : Option (List Leaf)) → run (state.Start level.File) (terminals_of tokens) ≡ o → option_map (map (λ l. l.part)) o ≡ Some does → HasParts tokens (Some does)
    by None r h = let no : ⊥ = cc in absurd no
    by (Some ls) r h =
        let s = sound (terminals_of tokens) (state.Start level.File) ls r in
        let same : map (λ l. l.part) ls ≡ does = cc in
        (s.1.0, sym s.0 ∙ ap terminals s.1.1, sym same ∙ ap (map (λ l. l.part)) s.1.1)

-- what is read where there is no token
abbrev pub no_token : PpTok
no_token = record {
  kind = Ident;
  text = record { 0 = 0 };
  origin = At (record { path = record { 0 = 0 }; offset = 0 });
  site = record { path = record { 0 = 0 }; offset = 0 };
  line = 0;
  end = 0;
  space = false;
  first = false;
  joined = false;
}

-- the tokens from an index on begin with the one at the index
pub from_index : {X : Type 0} (f : X → Token) (xs : List X) (i : ℕ) (x : X) → i < length xs → map f (drop i xs) ≡ f (get_or xs i x) ∷ map f (drop (i + 1) xs)
from_index f xs i x h = ap (map f) (drop_more xs i x h)

pub moved : (done new : List Part) (p : Part) (all rest : Option (List Part)) → all ≡ option_map (λ ps. done ++ ps) (option_map (λ ps. p ∷ ps) rest) → new ≡ done ++ p ∷ [] → all ≡ option_map (λ ps. new ++ ps) rest
moved done new p all None e n = e
moved done new p all (Some ps) e n = e ∙ ap (λ x. Some x) (sym (append_assoc done (p ∷ []) ps) ∙ ap (λ l. l ++ ps) (sym n))

module _ (names : List (List ℕ)) where
  -- the move that the reader makes at an index of the tokens
  pub step_at : (tokens : List PpTok) (i : ℕ) (x : PpTok) (s : State) (terminal : Terminal) (calls : Bool) (found : Option Move)
      → terminal ≡ terminal_of (seen names (get_or tokens i x)).text → calls ≡ opens (map (seen names) (take (length tokens - (i + 1)) (drop (i + 1) tokens))) → found ≡ step s terminal calls
      → step s (terminal_of (seen names (get_or tokens i x)).text) (opens (map (seen names) (drop (i + 1) tokens))) ≡ found
  step_at tokens i x s terminal calls found a b c =
      let d : calls ≡ opens (map (seen names) (drop (i + 1) tokens)) = b ∙ ap (λ l. opens (map (seen names) l)) (take_rest tokens (i + 1)) in
      ap (λ t. step s t (opens (map (seen names) (drop (i + 1) tokens)))) (sym a) ∙ ap (step s terminal) (sym d) ∙ sym c

  module _ (d : PpTok) (tokens : List PpTok) (i : ℕ) (s : State) (terminal : Terminal) (calls : Bool) (found : Option Move)
      (within : i < length tokens) (a : terminal ≡ terminal_of (seen names (get_or tokens i d)).text)
      (b : calls ≡ opens (map (seen names) (take (length tokens - (i + 1)) (drop (i + 1) tokens)))) (c : found ≡ step s terminal calls) where
    pub read_stops_at : found ≡ None → read s (map (seen names) (drop i tokens)) ≡ None
    read_stops_at none =
        ap (read s) (from_index (seen names) tokens i d within)
        ∙ read-stop s (seen names (get_or tokens i d)) (map (seen names) (drop (i + 1) tokens)) (step_at tokens i d s terminal calls found a b c ∙ none)

    pub read_moves_at : (m : Move) → found ≡ Some m → read s (map (seen names) (drop i tokens)) ≡ option_map (λ ps. m.part ∷ ps) (read m.next (map (seen names) (drop (i + 1) tokens)))
    read_moves_at m some =
        ap (read s) (from_index (seen names) tokens i d within)
        ∙ read-move s (seen names (get_or tokens i d)) (map (seen names) (drop (i + 1) tokens)) m (step_at tokens i d s terminal calls found a b c ∙ some)

  -- the reader at the end of the tokens
  pub read_ended : (tokens : List PpTok) (i : ℕ) (s : State) (done : List Part) (b : Bool) → length tokens ≤ i → is_end s ≡ b
      → read (state.Start level.File) (map (seen names) tokens) ≡ option_map (λ ps. done ++ ps) (read s (map (seen names) (drop i tokens)))
      → HasParts (map (seen names) tokens) (if b then Some done else None)
  read_ended tokens i s done b past e h =
      has_parts (map (seen names) tokens) (if b then Some done else None)
      (h ∙ ap (λ l. option_map (λ ps. done ++ ps) (read s (map (seen names) l))) (drop_all i tokens past) ∙ ap (option_map (λ ps. done ++ ps)) (read-end s b e) ∙ by b)
    where
      by : (b : Bool) → option_map (λ ps. done ++ ps) (if b then Some [] else None) ≡ (if b then Some done else None)
      by true = ap (λ x. Some x) (append-nil done)
      by false = refl
