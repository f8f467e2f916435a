-- Where a quote isn't closed on its line, no later quote of this kind on the line is.
use Rattle.std.proofs.Common.{◌≡◌, ℕ, zero, suc, ◌+◌, ◌-◌, ◌≤◌, Bool, true, false, not, ◌&&◌, cond, List, [], ◌∷◌, None, Ok, Err, refl, ap, sym, ◌∙◌, arith}
use Rattle.std.specs.Prelude.{◌==◌}
use Rattle.std.proofs.lemmas.Bool.{eq-eqb}
use Rattle.cr_lex.specs.Joins.{Cell, cells, joined_from, unless_joined}
use Rattle.cr_lex.specs.Scanning.{closed, Unclosed, ok}
use Rattle.cr_lex.specs.Joins.{rest}

-- the cells stand in order, from an offset on
abbrev pub Rising : ℕ → List Cell → Type 0
Rising from [] = Unit {0}
Rising from (c ∷ cs) = (from ≤ c.at) × Rising (c.at + 1) cs

pub sooner : (a b : ℕ) (cs : List Cell) → a ≤ b → Rising b cs → Rising a cs
sooner a b [] h r = tt
sooner a b (c ∷ cs) h r = (omega (arith, r.0), r.1)

cells_rise : (skip at line : ℕ) (bs : List ℕ) → Rising at (cells skip at line bs)
unfolding cells
cells_rise skip at line [] = tt
cells_rise skip at line (b ∷ bs) = by (joined_from (b ∷ bs) skip) _ _ _ (cells_rise (joined_from (b ∷ bs) skip - 1) (at + 1) _ bs)
  where
    by : (n line : ℕ) (t : Bool) (cs : List Cell) → Rising (at + 1) cs → Rising at (unless_joined (record { byte = b; at = at; line = line; trigraph = t }) cs n)
    by zero line t cs h = (omega arith, h)
    by (suc n) line t cs h = sooner at (at + 1) cs (omega arith) h

pub rest_rises : (bytes : List ℕ) (at : ℕ) → Rising at (rest bytes at)
unfolding rest
rest_rises bytes at = cells_rise zero at _ _

far : (q limit : ℕ) (cs : List Cell) → Rising limit cs → Unclosed q limit cs
far q limit [] r = tt
far q limit (c ∷ cs) r = ((λ h e. absurd (omega (arith, r.0))), far q limit cs (sooner limit (c.at + 1) cs (omega (arith, r.0)) r.1))

pub unclosed : (q : ℕ) (escaped : Bool) (from stop : ℕ) (cs : List Cell) → Rising from cs → closed q escaped from cs ≡ Err stop → Unclosed q stop cs
unclosed q escaped from stop [] r h = tt
unclosed q escaped from stop (c ∷ cs) r h = at_end (c.byte == 10) refl h (λ f e. unclosed q f (c.at + 1) stop cs r.1 e)
  where
    on : (e : Bool) (same : Bool) → (c.byte ≡ q → same ≡ true) → (not e && same) ≡ false → closed q (not e && (c.byte == 92)) (c.at + 1) cs ≡ Err stop → c.byte ≡ q → ok (closed q false (c.at + 1) cs) ≡ None
    on true same s f h k = ap ok h
    on false same s f h k = let bad : true ≡ false = sym (s k) ∙ f in cc

    behind_it : (t : Bool) → (not escaped && c.byte == q) ≡ t → cond t (Ok (c.at + 1)) (closed q (not escaped && c.byte == 92) (c.at + 1) cs) ≡ Err stop → ((f : Bool) → closed q f (c.at + 1) cs ≡ Err stop → Unclosed q stop cs) → Unclosed q stop (c ∷ cs)
    behind_it true e h ih = cc
    behind_it false e h ih = ((λ lt k. on escaped (c.byte == q) (λ k. eq-eqb c.byte q k) e h k), ih (not escaped && c.byte == 92) h)

    at_end : (t : Bool) → (c.byte == 10) ≡ t → cond t (Err c.at) (cond (not escaped && c.byte == q) (Ok (c.at + 1)) (closed q (not escaped && c.byte == 92) (c.at + 1) cs)) ≡ Err stop → ((f : Bool) → closed q f (c.at + 1) cs ≡ Err stop → Unclosed q stop cs) → Unclosed q stop (c ∷ cs)
    at_end true e h ih =
        let same : c.at ≡ stop = cc in
        ((λ lt k. absurd (omega arith)), far q stop cs (sooner stop (c.at + 1) cs (omega arith) r.1))
    at_end false e h ih = behind_it (not escaped && c.byte == q) refl h ih

-- the quote itself with those behind it
pub unclosed_here : (q stop : ℕ) (c : Cell) (cs : List Cell) → Rising (c.at + 1) cs → closed q false (c.at + 1) cs ≡ Err stop → Unclosed q stop (c ∷ cs)
unclosed_here q stop c cs r h = ((λ lt e. ap ok h), unclosed q false (c.at + 1) stop cs r h)
