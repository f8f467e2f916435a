-- What is known of the parts is what is known of the trees.
use Rattle.std.proofs.Common.{◌≡◌, ℕ, Bool, true, false, cond, List, [], ◌∷◌, map, refl, ap, ◌∙◌}
use Rattle.std.specs.Prelude.{nat_le, option_map}
use Rattle.cr_cond.specs.declared.symbol.Symbol.{Symbol}
use Rattle.cr_cond.specs.declared.symbol.Symbol.TheVariants.{Operand, Prefix, Infix, Question, Colon, Open, Close, Odd}
use Rattle.cr_cond.specs.declared.machine.Part.{Part}
use Rattle.cr_cond.specs.declared.machine.Frame.{Frame}
use Rattle.cr_cond.specs.declared.machine.Frame.TheVariants as f
use Rattle.cr_cond.specs.declared.machine.Hand.{Hand}
use Rattle.cr_cond.specs.declared.machine.Hand.TheVariants.{Waits, Holds, Refused}
use Rattle.cr_cond.specs.Symbols.{looseness}
use Rattle.cr_cond.specs.Reading.{Tree}
use Rattle.cr_cond.specs.Machine.{trees, parts, part_of, level, closed, State, reduced, at_colon, at_close, pushed, waited, held, step, whole, finished, run}

abbrev frame_of : Frame Tree → Frame Part
frame_of (f.Sign s) = f.Sign s
frame_of (f.Left op a) = f.Left op (part_of a)
frame_of f.Bracket = f.Bracket
frame_of (f.Test c) = f.Test (part_of c)
frame_of (f.Middle c a) = f.Middle (part_of c) (part_of a)

abbrev frames_of : List (Frame Tree) → List (Frame Part)
frames_of = map frame_of

abbrev hand_of : Hand Tree → Hand Part
hand_of Waits = Waits
hand_of (Holds t) = Holds (part_of t)
hand_of Refused = Refused

abbrev state_of : State Tree → State Part
state_of s = record { frames = frames_of s.frames; hand = hand_of s.hand }

abbrev both_of : List (Frame Tree) × Tree → List (Frame Part) × Part
both_of p = (frames_of p.0, part_of p.1)

same_level : (x : Frame Tree) → level (frame_of x) ≡ level x
same_level (f.Sign s) = refl
same_level (f.Left op a) = refl
same_level f.Bracket = refl
same_level (f.Test c) = refl
same_level (f.Middle c a) = refl

same_closed : (t : Tree) (x : Frame Tree) → closed parts (part_of t) (frame_of x) ≡ part_of (closed trees t x)
same_closed t (f.Sign s) = refl
same_closed t (f.Left op a) = refl
same_closed t f.Bracket = refl
same_closed t (f.Test c) = refl
same_closed t (f.Middle c a) = refl

both_cond : (b : Bool) (p q : List (Frame Tree) × Tree) → cond b (both_of p) (both_of q) ≡ both_of (cond b p q)
both_cond true p q = refl
both_cond false p q = refl

same_reduced : (n : ℕ) (xs : List (Frame Tree)) (t : Tree) → reduced parts n (part_of t) (frames_of xs) ≡ both_of (reduced trees n t xs)
same_reduced n [] t = refl
same_reduced n (x ∷ xs) t =
    ap (λ k. cond (nat_le k n) (reduced parts n (closed parts (part_of t) (frame_of x)) (frames_of xs)) (frame_of x ∷ frames_of xs, part_of t)) (same_level x)
    ∙ ap (λ z. cond (nat_le (level x) n) (reduced parts n z (frames_of xs)) (frame_of x ∷ frames_of xs, part_of t)) (same_closed t x)
    ∙ ap (λ z. cond (nat_le (level x) n) z (frame_of x ∷ frames_of xs, part_of t)) (same_reduced n xs (closed trees t x))
    ∙ both_cond (nat_le (level x) n) (reduced trees n (closed trees t x) xs) (x ∷ xs, t)

same_colon : (t : Tree) (xs : List (Frame Tree)) → at_colon (part_of t) (frames_of xs) ≡ state_of (at_colon t xs)
same_colon t [] = refl
same_colon t (f.Sign s ∷ xs) = refl
same_colon t (f.Left op a ∷ xs) = refl
same_colon t (f.Bracket ∷ xs) = refl
same_colon t (f.Test c ∷ xs) = refl
same_colon t (f.Middle c a ∷ xs) = refl

same_close : (t : Tree) (xs : List (Frame Tree)) → at_close (part_of t) (frames_of xs) ≡ state_of (at_close t xs)
same_close t [] = refl
same_close t (f.Sign s ∷ xs) = refl
same_close t (f.Left op a ∷ xs) = refl
same_close t (f.Bracket ∷ xs) = refl
same_close t (f.Test c ∷ xs) = refl
same_close t (f.Middle c a ∷ xs) = refl

same_waited : (xs : List (Frame Tree)) (x : Symbol) → waited parts (frames_of xs) x ≡ state_of (waited trees xs x)
same_waited xs (Operand v) = refl
same_waited xs (Prefix s) = refl
same_waited xs (Infix op) = refl
same_waited xs Question = refl
same_waited xs Colon = refl
same_waited xs Open = refl
same_waited xs Close = refl
same_waited xs Odd = refl

same_held : (xs : List (Frame Tree)) (t : Tree) (x : Symbol) → held parts (frames_of xs) (part_of t) x ≡ state_of (held trees xs t x)
same_held xs t (Infix op) = ap (λ p. pushed (f.Left op p.1) p.0) (same_reduced (looseness op) xs t)
same_held xs t Question = ap (λ p. pushed (f.Test p.1) p.0) (same_reduced 10 xs t)
same_held xs t Colon = ap (λ p. at_colon p.1 p.0) (same_reduced 11 xs t) ∙ same_colon (reduced trees 11 t xs).1 (reduced trees 11 t xs).0
same_held xs t Close = ap (λ p. at_close p.1 p.0) (same_reduced 11 xs t) ∙ same_close (reduced trees 11 t xs).1 (reduced trees 11 t xs).0
same_held xs t (Operand v) = refl
same_held xs t (Prefix s) = refl
same_held xs t Open = refl
same_held xs t Odd = refl

same_step : (x : Symbol) (xs : List (Frame Tree)) (h : Hand Tree) → step parts x (frames_of xs) (hand_of h) ≡ state_of (step trees x xs h)
same_step x xs Waits = same_waited xs x
same_step x xs (Holds t) = same_held xs t x
same_step x xs Refused = refl

same_whole : (t : Tree) (xs : List (Frame Tree)) → whole (part_of t) (frames_of xs) ≡ option_map part_of (whole t xs)
same_whole t [] = refl
same_whole t (x ∷ xs) = refl

same_finished : (xs : List (Frame Tree)) (h : Hand Tree) → finished parts (frames_of xs) (hand_of h) ≡ option_map part_of (finished trees xs h)
same_finished xs Waits = refl
same_finished xs (Holds t) = ap (λ p. whole p.1 p.0) (same_reduced 11 xs t) ∙ same_whole (reduced trees 11 t xs).1 (reduced trees 11 t xs).0
same_finished xs Refused = refl

pub same_run : (xs : List Symbol) (s : State Tree) → run parts (state_of s) xs ≡ option_map part_of (run trees s xs)
same_run [] s = same_finished s.frames s.hand
same_run (x ∷ xs) s = ap (λ z. run parts z xs) (same_step x s.frames s.hand) ∙ same_run xs (step trees x s.frames s.hand)
