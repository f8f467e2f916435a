-- What the symbols spell is read by the machine.
use Rattle.std.proofs.Common.{◌≡◌, ℕ, suc, ◌≤◌, List, [], ◌∷◌, ◌++◌, refl, ap, sym, ◌∙◌, subst, arith, Some, append-nil, append_assoc}
use Rattle.cr_cond.specs.declared.symbol.Symbol.{Symbol}
use Rattle.cr_cond.specs.declared.symbol.Symbol.TheVariants.{Infix, Question, Colon, Close}
use Rattle.cr_cond.specs.declared.machine.Frame.TheVariants as f
use Rattle.cr_cond.specs.declared.machine.Hand.TheVariants.{Waits, Holds}
use Rattle.cr_cond.specs.Symbols.{looseness}
use Rattle.cr_cond.specs.Reading.{Tree, Leaf}
use Rattle.cr_cond.specs.Grammar.{Spells, leaf, sign, brackets, binary, chosen, looser}
use Rattle.cr_cond.specs.Machine.{trees, State, reduced, at_colon, at_close, pushed, whole, run, start}
use Rattle.cr_cond.proofs.Room.{Frames, room, loose_most, open_frame, shut_frame, stays_open}

abbrev waits : Frames → State Tree
waits fs = record { frames = fs; hand = Waits }

abbrev holds : Frames → Tree → State Tree
holds fs t = record { frames = fs; hand = Holds t }

-- the machine goes over xs, and then the frames that it left close to the tree
record Goes (n : ℕ) (t : Tree) (xs : List Symbol) (fs : Frames) (rest : List Symbol) : Type 0 where
  frames : Frames
  top : Tree
  runs : run trees (waits fs) (xs ++ rest) ≡ run trees (holds frames top) rest
  reduces : (k : ℕ) → n ≤ k → reduced trees k top frames ≡ reduced trees k t fs

goes : (n : ℕ) (t : Tree) (xs : List Symbol) → Spells n t xs → (fs : Frames) → n ≤ room fs → (rest : List Symbol) → Goes n t xs fs rest
goes n t xs (leaf v) fs h rest = record { frames = fs; top = Leaf v; runs = refl; reduces = λ k b. refl }
goes n t xs (sign s t1 ys g) fs h rest =
    let i : Goes 0 t1 ys (f.Sign s ∷ fs) rest = goes 0 t1 ys g (f.Sign s ∷ fs) (omega arith) rest in
    record { frames = i.frames; top = i.top; runs = i.runs; reduces = λ k b. i.reduces k (omega arith) ∙ shut_frame k t1 (f.Sign s) fs (omega arith) }
goes n t xs (brackets t1 ys g) fs h rest =
    let i : Goes 11 t1 ys (f.Bracket ∷ fs) (Close ∷ rest) = goes 11 t1 ys g (f.Bracket ∷ fs) (omega arith) (Close ∷ rest) in
    record {
      frames = fs;
      top = t1;
      runs = ap (run trees (waits (f.Bracket ∷ fs))) (append_assoc ys (Close ∷ []) rest)
          ∙ i.runs
          ∙ ap (λ p. run trees (at_close p.1 p.0) rest) (i.reduces 11 (omega arith) ∙ open_frame 11 t1 f.Bracket fs (omega arith));
      reduces = λ k b. refl;
    }
goes n t xs (binary m op a b ys zs e g q) fs h rest =
    let i : Goes (suc m) a ys fs (Infix op ∷ (zs ++ rest)) = goes (suc m) a ys g fs h (Infix op ∷ (zs ++ rest)) in
    let j : Goes m b zs (f.Left op a ∷ fs) rest = goes m b zs q (f.Left op a ∷ fs) (omega (arith, e)) rest in
    record {
      frames = j.frames;
      top = j.top;
      runs = ap (run trees (waits fs)) (append_assoc ys (Infix op ∷ zs) rest)
          ∙ i.runs
          ∙ ap (λ p. run trees (pushed (f.Left op p.1) p.0) (zs ++ rest))
          (i.reduces (looseness op) (omega (arith, e)) ∙ subst (λ k. reduced trees k a fs ≡ (fs, a)) (sym e) (stays_open m a fs (omega (arith, e, loose_most op)) h))
          ∙ j.runs;
      reduces = λ k c. j.reduces k (omega arith) ∙ shut_frame k b (f.Left op a) fs (omega (arith, e));
    }
goes n t xs (chosen c a b us vs ws g q l) fs h rest =
    let i : Goes 10 c us fs (Question ∷ (vs ++ Colon ∷ (ws ++ rest))) = goes 10 c us g fs (omega arith) (Question ∷ (vs ++ Colon ∷ (ws ++ rest))) in
    let j : Goes 11 a vs (f.Test c ∷ fs) (Colon ∷ (ws ++ rest)) = goes 11 a vs q (f.Test c ∷ fs) (omega arith) (Colon ∷ (ws ++ rest)) in
    let k : Goes 11 b ws (f.Middle c a ∷ fs) rest = goes 11 b ws l (f.Middle c a ∷ fs) (omega arith) rest in
    record {
      frames = k.frames;
      top = k.top;
      runs = ap (run trees (waits fs)) (append_assoc us (Question ∷ (vs ++ Colon ∷ ws)) rest ∙ ap (λ z. us ++ Question ∷ z) (append_assoc vs (Colon ∷ ws) rest))
          ∙ i.runs
          ∙ ap (λ p. run trees (pushed (f.Test p.1) p.0) (vs ++ Colon ∷ (ws ++ rest))) (i.reduces 10 (omega arith) ∙ stays_open 9 c fs (omega arith) (omega arith))
          ∙ j.runs
          ∙ ap (λ p. run trees (at_colon p.1 p.0) (ws ++ rest)) (j.reduces 11 (omega arith) ∙ open_frame 11 a (f.Test c) fs (omega arith))
          ∙ k.runs;
      reduces = λ n1 d. k.reduces n1 (omega arith) ∙ shut_frame n1 b (f.Middle c a) fs (omega arith);
    }
goes n t xs (looser m t1 ys g) fs h rest =
    let i : Goes m t1 ys fs rest = goes m t1 ys g fs (omega arith) rest in
    record { frames = i.frames; top = i.top; runs = i.runs; reduces = λ k b. i.reduces k (omega arith) }

pub accepts : (xs : List Symbol) (t : Tree) → Spells 11 t xs → run trees start xs ≡ Some t
accepts xs t g =
    let i : Goes 11 t xs [] [] = goes 11 t xs g [] (omega arith) [] in
    ap (run trees start) (sym (append-nil xs)) ∙ i.runs ∙ ap (λ p. whole p.1 p.0) (i.reduces 11 (omega arith))
