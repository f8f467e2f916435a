-- Tasks one after another, and the stack of open files.
use Rattle.std.proofs.Common.{◌≡◌, List, [], ◌∷◌, ◌++◌, refl, ap, sym, ◌∙◌, append_assoc}
use Rattle.cr_phase4.specs.Tasks.{Event, Opened, Reply, Goes, Ends, Task, Nothing, Done, behind, go_on, ◌>>>◌, reads}
use Rattle.cr_phase4.specs.Preprocessing.{does_file, does_lines}
use Rattle.cr_preproc.specs.Frames.{goes_on, OpensInFront}

pub behind_behind : {A : Type 0} (es fs : List Event) (r : Reply A) → behind es (behind fs r) ≡ behind (es ++ fs) r
behind_behind es fs (Goes a s more) = ap (Goes a s) (sym (append_assoc es fs more))
behind_behind es fs (Ends e more) = ap (Ends e) (sym (append_assoc es fs more))

pub behind_then : {A B : Type 0} (es : List Event) (r : Reply A) (f : A → Task B) → go_on (behind es r) f ≡ behind es (go_on r f)
behind_then es (Goes a s more) f = sym (behind_behind es more (f a s))
behind_then es (Ends e more) f = refl

pub then_assoc : {A B C : Type 0} (r : Reply A) (f : A → Task B) (g : B → Task C) → go_on (go_on r f) g ≡ go_on r (λ a. f a >>> g)
then_assoc (Goes a s es) f g = behind_then es (f a s) g
then_assoc (Ends e es) f g = refl

pub opens_in_front : OpensInFront
opens_in_front w u n path file fs s = then_assoc (Goes Done s (Opened path ∷ [])) (λ d. reads 1 [] >>> λ d. lines) (λ d. goes_on w u fs) ∙ ap (behind (Opened path ∷ [])) (then_assoc (reads 1 [] s) (λ d. lines) (λ d. goes_on w u fs)) where
  lines : Task Nothing
  lines = does_lines w u (does_file w u n) path file.fault file.lines [] []
