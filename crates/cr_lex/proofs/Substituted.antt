-- The cells of the edited bytes are the edited cells.
use Rattle.std.proofs.Common.{◌≡◌, ℕ, zero, ◌+◌, ◌-◌, ◌<◌, ◌≤◌, inl, inr, Bool, true, false, ◌||◌, List, [], ◌∷◌, ◌++◌, length, map, take, drop, refl, ap, sym, ◌∙◌, subst, arith, append_assoc, append-nil, take-append-drop, length-append, length-take-le, drop-drop}
use Rattle.std.specs.List.{list_all}
use Rattle.std.proofs.lemmas.Bool.{ne_eqb, eq-eqb, and_parts}
use Rattle.cr_base.specs.Names.{is_identifier, is_word_byte, starts_name}
use Rattle.cr_base.specs.Substitution.{Rise, substituted_from, shifted}
use Rattle.cr_lex.specs.Joins.{Cell, cells}
use Rattle.cr_lex.specs.Renaming.{is_among}
use Rattle.cr_lex.proofs.Shifting.{IsOut, shifted-none, shifted-here, shifted-past, shifted-above, among-above, out}
use Rattle.cr_lex.proofs.Edited.{edited, moved_to, name_cells, cells_before, cells_name, cells_moved, identifier_words, edited_before, edited_place, lines_over, NoPlace}

-- at each offset the bytes, of which the first stands at another offset, have a name
abbrev pub IsSpelled : List ℕ → ℕ → List ℕ → List ℕ → Type 0
IsSpelled name from [] bytes = Unit {0}
IsSpelled name from (o ∷ os) bytes = (take (length name) (drop (o - from) bytes) ≡ name) × IsSpelled name (o + length name) os (drop (o + length name - from) bytes)

cells_split : (f name ys : List ℕ) (at line : ℕ) → is_identifier name ≡ true
    → cells zero at line (f ++ (name ++ ys)) ≡ cells zero at line f ++ (name_cells (at + length f) (lines_over line f) name ++ cells zero (at + length f + length name) (lines_over line f) ys)
cells_split f [] ys at line h = cc
cells_split f (l ∷ ws) ys at line h =
    cells_before f l (ws ++ ys) zero at line (and_parts (starts_name l) (list_all is_word_byte ws) h).0 (omega arith)
    ∙ ap (λ cs. cells zero at line f ++ cs) (cells_name (l ∷ ws) ys (at + length f) (lines_over line f) (identifier_words (l ∷ ws) h))

rise_end : (os : List ℕ) (old from end : ℕ) → Rise from os old end → from ≤ end
rise_end [] old from end r = r
rise_end (o ∷ os) old from end r = let k = rise_end os old (o + old) end r.1 in omega (arith, r.0)

module _ (place : ℕ → Bool) (shift : ℕ → ℕ) (old new : List ℕ) (name : is_identifier old ≡ true) (fresh : is_identifier new ≡ true) where
  E : List Cell → List Cell
  E cs = edited place shift (length old) new zero cs

  some : (xs : List ℕ) → is_identifier xs ≡ true → 0 < length xs
  some [] h = cc
  some (x ∷ xs) h = omega arith

  edited_name : (at line : ℕ) (cs : List Cell) → place at ≡ true → edited place shift (length old) new zero (name_cells at line old ++ cs) ≡ name_cells (shift at) line new ++ edited place shift (length old) new zero cs
  edited_name at line cs h = by old refl name
    where
      by : (xs : List ℕ) → old ≡ xs → is_identifier xs ≡ true → edited place shift (length old) new zero (name_cells at line xs ++ cs) ≡ name_cells (shift at) line new ++ edited place shift (length old) new zero cs
      by [] e h = cc
      by (w ∷ ws) e k = edited_place place shift (length old) new w ws at line cs h (ap length e)

  parts : (o from : ℕ) (s : List ℕ) → from ≤ o → take (length old) (drop (o - from) s) ≡ old → s ≡ take (o - from) s ++ (old ++ drop (o + length old - from) s)
  parts o from s h e =
      sym (take-append-drop (o - from) s)
      ∙ ap (λ l. take (o - from) s ++ l)
      (sym (take-append-drop (length old) (drop (o - from) s))
      ∙ ap (λ l. l ++ drop (length old) (drop (o - from) s)) e
      ∙ ap (λ l. old ++ l) (drop-drop (length old) (o - from) s ∙ ap (λ n. drop n s) (let k : o - from + length old ≡ o + length old - from = omega arith in k)))

  pub substituted_cells : (os : List ℕ) (from to line : ℕ) (s : List ℕ)
      → Rise from os (length old) (from + length s) → IsSpelled old from os s
      → ((p : ℕ) → from ≤ p → IsOut (length old) (length new) os p → shift p + from ≡ to + shifted os (length old) (length new) p)
      → ((p : ℕ) → from ≤ p → place p ≡ is_among os p)
      → cells zero to line (substituted_from from os (length old) new s) ≡ edited place shift (length old) new zero (cells zero from line s)
  substituted_cells [] from to line s r sp sh pl =
      sym (ap (edited place shift (length old) new zero) (sym (append-nil (cells zero from line s)))
      ∙ edited_before place shift (length old) new s zero from line [] (λ p l g. pl p l)
      ∙ append-nil (map (moved_to shift) (cells zero from line s))
      ∙ cells_moved shift s zero from to line (λ i l. let k = sh (from + i) (omega arith) tt in omega arith))
  substituted_cells (o ∷ os) from to line s r sp sh pl =
      let front : List ℕ = take (o - from) s in
      let back : List ℕ = drop (o + length old - from) s in
      let split = parts o from s r.0 sp.0 in
      by (length-of split) (substituted_cells os (o + length old) (to + length (take (o - from) s) + length new) (lines_over line (take (o - from) s)) (drop (o + length old - from) s)
      (rise (length-of split)) sp.1 (moves (length-of split)) places)
    where
      length-of : s ≡ take (o - from) s ++ (old ++ drop (o + length old - from) s) → (length (take (o - from) s) ≡ o - from) × (length s ≡ o - from + length old + length (drop (o + length old - from) s))
      length-of e =
          let sum : length s ≡ length (take (o - from) s) + (length old + length (drop (o + length old - from) s)) = ap length e ∙ length-append (take (o - from) s) (old ++ drop (o + length old - from) s) ∙ ap (λ n. length (take (o - from) s) + n) (length-append old (drop (o + length old - from) s)) in
          let long : length (take (o - from) s) ≡ o - from = length-take-le (o - from) s (let k = rise_end os (length old) (o + length old) (from + length s) r.1 in omega (arith, r.0)) in
          (long, omega arith)

      rise : (length (take (o - from) s) ≡ o - from) × (length s ≡ o - from + length old + length (drop (o + length old - from) s)) → Rise (o + length old) os (length old) (o + length old + length (drop (o + length old - from) s))
      rise l = subst (Rise (o + length old) os (length old)) (let k : from + length s ≡ o + length old + length (drop (o + length old - from) s) = omega (arith, l.1, r.0) in k) r.1

      moves : (length (take (o - from) s) ≡ o - from) × (length s ≡ o - from + length old + length (drop (o + length old - from) s)) → (p : ℕ) → o + length old ≤ p → IsOut (length old) (length new) os p → shift p + (o + length old) ≡ to + length (take (o - from) s) + length new + shifted os (length old) (length new) p
      moves l p g out =
          let k = sh p (omega (arith, r.0)) (inr g, out) in
          let n = some old name in
          let past = shifted-past (length old) (length new) o p os (omega arith) in
          let above = shifted-above (length old) (length new) os (o + length old) (from + length s) p r.1 g out in
          omega (arith, l.0, r.0)

      places : (p : ℕ) → o + length old ≤ p → place p ≡ is_among os p
      places p g = let n = some old name in pl p (omega (arith, r.0)) ∙ ap (λ t. t || is_among os p) (ne_eqb o p (λ e. omega arith))

      by : (length (take (o - from) s) ≡ o - from) × (length s ≡ o - from + length old + length (drop (o + length old - from) s))
          → cells zero (to + length (take (o - from) s) + length new) (lines_over line (take (o - from) s)) (substituted_from (o + length old) os (length old) new (drop (o + length old - from) s))
          ≡ edited place shift (length old) new zero (cells zero (o + length old) (lines_over line (take (o - from) s)) (drop (o + length old - from) s))
          → cells zero to line (substituted_from from (o ∷ os) (length old) new s) ≡ edited place shift (length old) new zero (cells zero from line s)
      by l ih =
          new_side ih ∙ sym (old_side l)
        where
          new_side : cells zero (to + length (take (o - from) s) + length new) (lines_over line (take (o - from) s)) (substituted_from (o + length old) os (length old) new (drop (o + length old - from) s))
              ≡ edited place shift (length old) new zero (cells zero (o + length old) (lines_over line (take (o - from) s)) (drop (o + length old - from) s))
              → cells zero to line (substituted_from from (o ∷ os) (length old) new s)
              ≡ cells zero to line (take (o - from) s) ++ (name_cells (to + length (take (o - from) s)) (lines_over line (take (o - from) s)) new ++ edited place shift (length old) new zero (cells zero (o + length old) (lines_over line (take (o - from) s)) (drop (o + length old - from) s)))
          new_side ih =
              ap (cells zero to line) (append_assoc (take (o - from) s) new (substituted_from (o + length old) os (length old) new (drop (o + length old - from) s)))
              ∙ cells_split (take (o - from) s) new (substituted_from (o + length old) os (length old) new (drop (o + length old - from) s)) to line fresh
              ∙ ap (λ cs. cells zero to line (take (o - from) s) ++ (name_cells (to + length (take (o - from) s)) (lines_over line (take (o - from) s)) new ++ cs)) ih

          no_place : (length (take (o - from) s) ≡ o - from) × (length s ≡ o - from + length old + length (drop (o + length old - from) s)) → NoPlace place shift (length old) new from (from + length (take (o - from) s))
          no_place l p a b = pl p a ∙ ap (λ t. t || is_among os p) (ne_eqb o p (λ e. omega (arith, l.0, r.0))) ∙ later (is_among os p) refl
            where
              later : (t : Bool) → is_among os p ≡ t → is_among os p ≡ false
              later true e = let k = among-above (length old) (length new) os (o + length old) (from + length s) p r.1 e in absurd (omega (arith, l.0, r.0))
              later false e = e

          here : (length (take (o - from) s) ≡ o - from) × (length s ≡ o - from + length old + length (drop (o + length old - from) s)) → place (from + length (take (o - from) s)) ≡ true
          here l = pl (from + length (take (o - from) s)) (omega arith) ∙ ap (λ t. t || is_among os (from + length (take (o - from) s))) (eq-eqb o (from + length (take (o - from) s)) (omega (arith, l.0, r.0)))

          stays : (length (take (o - from) s) ≡ o - from) × (length s ≡ o - from + length old + length (drop (o + length old - from) s)) → (i : ℕ) → i ≤ length (take (o - from) s) → shift (from + i) ≡ to + i
          stays l i g =
              let k = sh (from + i) (omega arith) (inl (omega (arith, l.0, r.0)), out (length old) (length new) os (o + length old) (from + length s) (from + i) r.1 (omega (arith, l.0, r.0))) in
              let a = shifted-here (length old) (length new) o (from + i) os (omega (arith, l.0, r.0)) in
              let b = shifted-none (length old) (length new) os (o + length old) (from + length s) (from + i) r.1 (omega (arith, l.0, r.0)) in
              omega arith

          old_side : (length (take (o - from) s) ≡ o - from) × (length s ≡ o - from + length old + length (drop (o + length old - from) s))
              → edited place shift (length old) new zero (cells zero from line s)
              ≡ cells zero to line (take (o - from) s) ++ (name_cells (to + length (take (o - from) s)) (lines_over line (take (o - from) s)) new ++ edited place shift (length old) new zero (cells zero (o + length old) (lines_over line (take (o - from) s)) (drop (o + length old - from) s)))
          old_side l =
              ap (λ x. edited place shift (length old) new zero (cells zero from line x)) (parts o from s r.0 sp.0)
              ∙ ap (edited place shift (length old) new zero) (cells_split (take (o - from) s) old (drop (o + length old - from) s) from line name)
              ∙ edited_before place shift (length old) new (take (o - from) s) zero from line _ (no_place l)
              ∙ ap (λ cs. cs ++ edited place shift (length old) new zero (name_cells (from + length (take (o - from) s)) (lines_over line (take (o - from) s)) old ++ cells zero (from + length (take (o - from) s) + length old) (lines_over line (take (o - from) s)) (drop (o + length old - from) s))) (cells_moved shift (take (o - from) s) zero from to line (λ i g. stays l i (omega arith)))
              ∙ ap (λ cs. cells zero to line (take (o - from) s) ++ cs)
              (edited_name (from + length (take (o - from) s)) (lines_over line (take (o - from) s)) _ (here l)
              ∙ ap (λ n. name_cells n (lines_over line (take (o - from) s)) new ++ edited place shift (length old) new zero (cells zero (from + length (take (o - from) s) + length old) (lines_over line (take (o - from) s)) (drop (o + length old - from) s))) (stays l (length (take (o - from) s)) (omega arith))
              ∙ ap (λ n. name_cells (to + length (take (o - from) s)) (lines_over line (take (o - from) s)) new ++ edited place shift (length old) new zero (cells zero (n + length old) (lines_over line (take (o - from) s)) (drop (o + length old - from) s))) (let k : from + length (take (o - from) s) ≡ o = omega (arith, l.0, r.0) in k))
