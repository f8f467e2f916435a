-- The tokens of a file stand in order.
use Rattle.std.proofs.Common.{◌≡◌, ℕ, zero, suc, ◌+◌, ◌-◌, ◌<◌, ◌≤◌, ◌⊎◌, inl, inr, Bool, true, false, cond, List, [], ◌∷◌, length, take, drop, Option, Some, None, refl, ap, sym, ◌∙◌, subst, arith, codes}
use Rattle.std.proofs.lemmas.List.{length-map}
use Rattle.cr_base.specs.declared.token.PpKind.{PpKind}
use Rattle.cr_lex.specs.Spellings.{Part, Piece}
use Rattle.cr_lex.specs.Spellings as spellings
use Rattle.cr_lex.specs.Joins.{Cell, text_of, begins}
use Rattle.cr_lex.specs.Lexing.{Token, Lexed, Fault, Before, longest_part, by_part, cut, stop, token, with_token, unless_trigraph, first_trigraph, end_of, lexed, at_start}
use Rattle.cr_lex.specs.Lexing as lexing
use Rattle.cr_lex.specs.Scanning.{behind}
use Rattle.cr_lex.specs.Joins.{rest}
use Rattle.cr_lex.specs.Standing.{in_line}
use Rattle.cr_lex.specs.Order.{AreInOrder, StandsInOrder}
use Rattle.cr_lex.proofs.Cells.{rest_end}
use Rattle.cr_lex.proofs.Marks.{Rising, rest_rises}
use Rattle.cr_lex.proofs.First.{cut_one, cut_none, skip_cut, rest_next, rest_behind, Rising-behind, ends_behind}
use Rattle.cr_lex.proofs.Keeping.{longest_gives, Hit, Missed}
use Rattle.cr_lex.proofs.Law.{end_far, lexed_is}

sooner_order : (from later : ℕ) (ts : List Token) (end : ℕ) → from ≤ later → AreInOrder later ts end → AreInOrder from ts end
sooner_order from later [] end h o = omega arith
sooner_order from later (t ∷ ts) end h o = (omega (arith, o.0), o.1, o.2)

behind_within : (bytes : List ℕ) (k from : ℕ) → from ≤ length bytes → behind k from (rest bytes from) ≤ length bytes
behind_within bytes k from h = go k from (rest bytes from) refl h
  where
    go : (k from : ℕ) (cs : List Cell) → rest bytes from ≡ cs → from ≤ length bytes → behind k from cs ≤ length bytes
    go zero from cs e h = h
    go (suc k) from [] e h = h
    go (suc k) from (c ∷ cs) e h = let n = rest_next (length bytes - from) bytes from c cs (omega arith) e in go k (c.at + 1) cs (sym n.0) (omega (arith, n.1))

order : (n : ℕ) (bytes : List ℕ) (from : ℕ) (b : Before) → length bytes - from ≤ n → from ≤ length bytes → AreInOrder from (cut b zero (rest bytes from)).tokens (length bytes)
order zero bytes from b size h = subst (λ l. AreInOrder from l.tokens (length bytes)) (sym (ap (cut b zero) (rest_end bytes from (omega arith)) ∙ cut_none b)) h
order (suc n) bytes from b size h = by (rest bytes from) refl (λ q b2 s g. order n bytes q b2 s g)
  where
    by : (cs : List Cell) → rest bytes from ≡ cs → ((q : ℕ) (b2 : Before) → length bytes - q ≤ n → q ≤ length bytes → AreInOrder q (cut b2 zero (rest bytes q)).tokens (length bytes)) → AreInOrder from (cut b zero (rest bytes from)).tokens (length bytes)
    by [] e ih = subst (λ l. AreInOrder from l.tokens (length bytes)) (sym (ap (cut b zero) e ∙ cut_none b)) h
    by (c ∷ cs) e ih = subst (λ l. AreInOrder from l.tokens (length bytes)) (sym (ap (cut b zero) e ∙ cut_one b c cs)) (on (longest_part (text_of (c ∷ cs))) (longest_gives (length (text_of (c ∷ cs))) (text_of (c ∷ cs)) (longest_part (text_of (c ∷ cs))).0 (longest_part (text_of (c ∷ cs))).1 refl))
      where
        next : (cs ≡ rest bytes (c.at + 1)) × (c.at < length bytes)
        next = let w = rest_next (length bytes - from) bytes from c cs (omega arith) e in (w.0, w.1)

        rises : Rising from (c ∷ cs)
        rises = subst (Rising from) e (rest_rises bytes from)

        later : (b2 : Before) (m : ℕ) → AreInOrder (behind m (c.at + 1) cs) (cut b2 m cs).tokens (length bytes)
        later b2 m =
            let g = Rising-behind m (c.at + 1) cs rises.1 in
            let w : behind m (c.at + 1) cs ≤ length bytes = subst (λ l. behind m (c.at + 1) l ≤ length bytes) (sym next.0) (behind_within bytes m (c.at + 1) (omega (arith, next.1))) in
            let d : rest bytes (behind m (c.at + 1) cs) ≡ drop m cs = ap (λ l. rest bytes (behind m (c.at + 1) l)) next.0 ∙ rest_behind bytes m (c.at + 1) ∙ ap (drop m) (sym next.0) in
            subst (λ l. AreInOrder (behind m (c.at + 1) cs) l.tokens (length bytes)) (ap (cut b2 zero) d ∙ sym (skip_cut b2 m cs)) (ih (behind m (c.at + 1) cs) b2 (omega (arith, rises.0, next.1)) w)

        space : (b2 : Before) (m : ℕ) → AreInOrder from (cut b2 m cs).tokens (length bytes)
        space b2 m = let g = Rising-behind m (c.at + 1) cs rises.1 in sooner_order from (behind m (c.at + 1) cs) (cut b2 m cs).tokens (length bytes) (omega (arith, rises.0)) (later b2 m)

        stopped : (l : Lexed) (o : Option ℕ) → AreInOrder from l.tokens (length bytes) → AreInOrder from (unless_trigraph l o).tokens (length bytes)
        stopped l None k = k
        stopped l (Some at) k = h

        opened : (x : Bool) (f : Fault) (l : Lexed) → AreInOrder from l.tokens (length bytes) → AreInOrder from (cond x (stop f) l).tokens (length bytes)
        opened true f l k = h
        opened false f l k = k

        own : (k : ℕ) (kind : PpKind) → AreInOrder from (token b kind c (c ∷ take k cs) ∷ (cut in_line (suc k - 1) cs).tokens) (length bytes)
        own k kind = (
          rises.0,
          (let w = end_far c cs k rises.1 in omega (arith, length-map (take k cs) (λ (x : Cell). x.byte))),
          subst (λ m. AreInOrder m (cut in_line (suc k - 1) cs).tokens (length bytes)) (sym (ends_behind k c cs)) (subst (λ m. AreInOrder (behind k (c.at + 1) cs) (cut in_line m cs).tokens (length bytes)) (let z : k ≡ suc k - 1 = omega arith in z) (later in_line k)),
        )

        on : (p : ℕ × Part) → Hit (length (text_of (c ∷ cs))) (text_of (c ∷ cs)) p.0 p.1 ⊎ Missed (length (text_of (c ∷ cs))) (text_of (c ∷ cs)) p.0 p.1 → AreInOrder from (by_part b c cs (λ after n. cut after n cs) p).tokens (length bytes)
        on (m, spellings.Blank) w = space (record b { space = true }) (m - 1)
        on (m, spellings.Comment) w = space (record b { space = true }) (m - 1)
        on (m, spellings.LineEnd) w = space (record { first = true; space = true }) (m - 1)
        on (zero, Piece kind) (inl (x, y, z, v)) = absurd (omega arith)
        on (zero, Piece kind) (inr (x, y, z)) = absurd (omega arith)
        on (suc k, Piece kind) w =
            opened (begins (codes "/*") (text_of (c ∷ cs))) (lexing.OpenComment c.at) _
            (stopped (with_token (token b kind c (c ∷ take k cs)) (cut in_line (suc k - 1) cs)) (first_trigraph (c ∷ take k cs)) (own k kind))

pub stands_in_order : StandsInOrder
stands_in_order bytes = subst (λ l. AreInOrder 0 l.tokens (length bytes)) (sym (lexed_is bytes)) (order (length bytes) bytes 0 at_start (omega arith) (omega arith))
