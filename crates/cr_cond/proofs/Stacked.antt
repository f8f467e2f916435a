-- What the machine reads is what the symbols spell.
use Rattle.std.proofs.Common.{◌≡◌, ℕ, zero, suc, ◌+◌, ◌-◌, ◌≤◌, ◌<◌, Bool, true, false, cond, List, [], ◌∷◌, ◌++◌, refl, ap, sym, ◌∙◌, subst, arith, append-nil, append_assoc}
use Rattle.std.specs.Prelude.{nat_le}
use Rattle.std.proofs.lemmas.Bool.Decides.{nat_tests}
use Rattle.cr_cond.specs.declared.symbol.Op.{Op}
use Rattle.cr_cond.specs.declared.symbol.Symbol.{Symbol}
use Rattle.cr_cond.specs.declared.symbol.Symbol.TheVariants.{Operand, Prefix, Infix, Question, Colon, Open, Close, Odd}
use Rattle.cr_cond.specs.declared.machine.Frame.{Frame}
use Rattle.cr_cond.specs.declared.machine.Frame.TheVariants as f
use Rattle.cr_cond.specs.declared.machine.Hand.{Hand}
use Rattle.cr_cond.specs.declared.machine.Hand.TheVariants.{Waits, Holds, Refused}
use Rattle.cr_cond.specs.Symbols.{looseness}
use Rattle.cr_cond.specs.Reading.{Tree, Signed, Binary, Choice}
use Rattle.cr_cond.specs.Grammar.{Spells, SpellsAny, leaf, sign, brackets, binary, chosen, looser}
use Rattle.cr_cond.specs.Machine.{trees, level, closed, reduced, at_colon, at_close, waited, held, step, whole, finished, run, start}
use Rattle.cr_cond.proofs.Room.{Frames, room, loose_most, loose_least}

-- the symbols that these frames stand for
abbrev pub Stacked : List Symbol → Frames → Type 0
Stacked ws [] = ws ≡ []
Stacked ws (f.Sign s ∷ fs) = (us : List Symbol) × (ws ≡ us ++ Prefix s ∷ []) × Stacked us fs
Stacked ws (f.Left op a ∷ fs) =
    (us : List Symbol) × (ys : List Symbol) × (ws ≡ us ++ (ys ++ Infix op ∷ [])) × Spells (looseness op) a ys × (looseness op ≤ room fs) × Stacked us fs
Stacked ws (f.Bracket ∷ fs) = (us : List Symbol) × (ws ≡ us ++ Open ∷ []) × Stacked us fs
Stacked ws (f.Test c ∷ fs) =
    (us : List Symbol) × (ys : List Symbol) × (ws ≡ us ++ (ys ++ Question ∷ [])) × Spells 10 c ys × (11 ≤ room fs) × Stacked us fs
Stacked ws (f.Middle c a ∷ fs) =
    (us : List Symbol) × (ys : List Symbol) × (zs : List Symbol) × (ws ≡ us ++ (ys ++ Question ∷ (zs ++ Colon ∷ []))) × Spells 10 c ys × Spells 11 a zs × (11 ≤ room fs) × Stacked us fs

abbrev IsOpen : ℕ → Frames → Type 0
IsOpen n [] = Unit {0}
IsOpen n (x ∷ fs) = n < level x

-- frames that are left, and an operand above them
record Closes (n : ℕ) (all : List Symbol) (p : Frames × Tree) : Type 0 where
  below : List Symbol
  above : List Symbol
  same : all ≡ below ++ above
  stacked : Stacked below p.0
  spells : Spells n p.1 above
  is_open : IsOpen n p.0

loosen_by : (k m : ℕ) (t : Tree) (xs : List Symbol) → Spells m t xs → Spells (k + m) t xs
loosen_by zero m t xs g = subst (λ n. Spells n t xs) (let e : m ≡ 0 + m = omega arith in e) g
loosen_by (suc k) m t xs g = subst (λ n. Spells n t xs) (let e : suc (k + m) ≡ suc k + m = omega arith in e) (looser (k + m) t xs (loosen_by k m t xs g))

loosen : (m n : ℕ) (t : Tree) (xs : List Symbol) → m ≤ n → Spells m t xs → Spells n t xs
loosen m n t xs h g = subst (λ k. Spells k t xs) (let e : (n - m) + m ≡ n = omega arith in e) (loosen_by (n - m) m t xs g)

-- an operator with both operands
operated : (op : Op) (m : ℕ) (a t : Tree) (ys hs : List Symbol) → m ≤ looseness op - 1 → Spells (looseness op) a ys → Spells m t hs → Spells (looseness op) (Binary op a t) (ys ++ Infix op ∷ hs)
operated op m a t ys hs h g q =
    let e : looseness op ≡ suc (looseness op - 1) = omega (arith, loose_least op) in
    subst (λ k. Spells k (Binary op a t) (ys ++ Infix op ∷ hs)) (sym e)
    (binary (looseness op - 1) op a t ys hs e (subst (λ k. Spells k a ys) e g) (loosen m (looseness op - 1) t hs h q))

-- the topmost frame stays or is closed
closes_by : (n m : ℕ) (t : Tree) (ws hs : List Symbol) (x : Frame Tree) (fs : Frames) (b : Bool) → nat_le (level x) n ≡ b → m ≤ n → Stacked ws (x ∷ fs) → Spells m t hs
    → (level x ≤ n → Closes n (ws ++ hs) (reduced trees n (closed trees t x) fs)) → Closes n (ws ++ hs) (cond b (reduced trees n (closed trees t x) fs) (x ∷ fs, t))
closes_by n m t ws hs x fs true e h s g go = go (grind (arith, nat_tests))
closes_by n m t ws hs x fs false e h s g go =
    record { below = ws; above = hs; same = refl; stacked = s; spells = loosen m n t hs h g; is_open = grind (arith, nat_tests) }

closes : (n m : ℕ) (t : Tree) (ws hs : List Symbol) (fs : Frames) → n ≤ 11 → m ≤ n → m ≤ room fs → Stacked ws fs → Spells m t hs → Closes n (ws ++ hs) (reduced trees n t fs)
closes n m t ws hs [] k h r s g =
    record { below = []; above = hs; same = ap (λ z. z ++ hs) s; stacked = refl; spells = loosen m n t hs h g; is_open = tt }
closes n m t ws hs (f.Sign q ∷ fs) k h r s g =
    closes_by n m t ws hs (f.Sign q) fs (nat_le 0 n) refl h s g
    (λ b. subst (λ z. Closes n z (reduced trees n (Signed q t) fs)) (sym (ap (λ z. z ++ hs) s.1 ∙ append_assoc s.0 (Prefix q ∷ []) hs))
    (closes n 0 (Signed q t) s.0 (Prefix q ∷ hs) fs k (omega arith) (omega arith) s.2 (sign q t hs (loosen m 0 t hs (omega arith) g))))
closes n m t ws hs (f.Left op a ∷ fs) k h r s g =
    closes_by n m t ws hs (f.Left op a) fs (nat_le (looseness op) n) refl h s g
    (λ b. subst (λ z. Closes n z (reduced trees n (Binary op a t) fs))
    (sym (ap (λ z. z ++ hs) s.2 ∙ append_assoc s.0 (s.1 ++ Infix op ∷ []) hs ∙ ap (λ z. s.0 ++ z) (append_assoc s.1 (Infix op ∷ []) hs)))
    (closes n (looseness op) (Binary op a t) s.0 (s.1 ++ Infix op ∷ hs) fs k b s.4 s.5 (operated op m a t s.1 hs r s.3 g)))
closes n m t ws hs (f.Bracket ∷ fs) k h r s g = closes_by n m t ws hs f.Bracket fs (nat_le 12 n) refl h s g (λ b. absurd (omega arith))
closes n m t ws hs (f.Test c ∷ fs) k h r s g = closes_by n m t ws hs (f.Test c) fs (nat_le 12 n) refl h s g (λ b. absurd (omega arith))
closes n m t ws hs (f.Middle c a ∷ fs) k h r s g =
    closes_by n m t ws hs (f.Middle c a) fs (nat_le 11 n) refl h s g
    (λ b. subst (λ z. Closes n z (reduced trees n (Choice c a t) fs))
    (sym (ap (λ z. z ++ hs) s.3 ∙ append_assoc s.0 (s.1 ++ Question ∷ (s.2 ++ Colon ∷ [])) hs ∙ ap (λ z. s.0 ++ z) (append_assoc s.1 (Question ∷ (s.2 ++ Colon ∷ [])) hs ∙ ap (λ z. s.1 ++ Question ∷ z) (append_assoc s.2 (Colon ∷ []) hs))))
    (closes n 11 (Choice c a t) s.0 (s.1 ++ Question ∷ (s.2 ++ Colon ∷ hs)) fs k b s.6 s.7 (chosen c a t s.1 s.2 hs s.4 s.5 (loosen m 11 t hs (omega arith) g))))

-- what a state has read
abbrev pub Fits : List Symbol → Frames → Hand Tree → Type 0
Fits ws fs Waits = Stacked ws fs
Fits ws fs (Holds t) = (us : List Symbol) × (hs : List Symbol) × (ws ≡ us ++ hs) × Stacked us fs × Spells 0 t hs
Fits ws fs Refused = Unit {0}

room_for : (n : ℕ) (fs : Frames) → n ≤ 10 → IsOpen n fs → n ≤ room fs
room_for n [] h k = omega arith
room_for n (f.Sign s ∷ fs) h k = absurd (omega arith)
room_for n (f.Left op a ∷ fs) h k = omega arith
room_for n (f.Middle c a ∷ fs) h k = omega arith
room_for n (f.Bracket ∷ fs) h k = omega arith
room_for n (f.Test c ∷ fs) h k = omega arith

whole_room : (fs : Frames) → IsOpen 10 fs → 11 ≤ room fs
whole_room [] k = omega arith
whole_room (f.Sign s ∷ fs) k = absurd (omega arith)
whole_room (f.Left op a ∷ fs) k = absurd (omega (arith, loose_most op))
whole_room (f.Middle c a ∷ fs) k = omega arith
whole_room (f.Bracket ∷ fs) k = omega arith
whole_room (f.Test c ∷ fs) k = omega arith

move : (ws us vs : List Symbol) (x : Symbol) → ws ≡ us ++ vs → ws ++ x ∷ [] ≡ us ++ (vs ++ x ∷ [])
move ws us vs x e = ap (λ z. z ++ x ∷ []) e ∙ append_assoc us vs (x ∷ [])

fits_waited : (ws : List Symbol) (fs : Frames) (x : Symbol) → Stacked ws fs → Fits (ws ++ x ∷ []) (waited trees fs x).frames (waited trees fs x).hand
fits_waited ws fs (Operand v) s = (ws, Operand v ∷ [], refl, s, leaf v)
fits_waited ws fs (Prefix q) s = (ws, refl, s)
fits_waited ws fs Open s = (ws, refl, s)
fits_waited ws fs (Infix op) s = tt
fits_waited ws fs Question s = tt
fits_waited ws fs Colon s = tt
fits_waited ws fs Close s = tt
fits_waited ws fs Odd s = tt

fits_colon : (ws us vs : List Symbol) (t : Tree) (fs : Frames) → ws ≡ us ++ vs → Stacked us fs → Spells 11 t vs → Fits (ws ++ Colon ∷ []) (at_colon t fs).frames (at_colon t fs).hand
fits_colon ws us vs t (f.Test c ∷ fs) e s g = (
  s.0,
  s.1,
  vs,
  move ws us vs Colon e ∙ ap (λ z. z ++ (vs ++ Colon ∷ [])) s.2 ∙ append_assoc s.0 (s.1 ++ Question ∷ []) (vs ++ Colon ∷ []) ∙ ap (λ z. s.0 ++ z) (append_assoc s.1 (Question ∷ []) (vs ++ Colon ∷ [])),
  s.3,
  g,
  s.4,
  s.5,
)
fits_colon ws us vs t [] e s g = tt
fits_colon ws us vs t (f.Sign q ∷ fs) e s g = tt
fits_colon ws us vs t (f.Left op a ∷ fs) e s g = tt
fits_colon ws us vs t (f.Bracket ∷ fs) e s g = tt
fits_colon ws us vs t (f.Middle c a ∷ fs) e s g = tt

fits_close : (ws us vs : List Symbol) (t : Tree) (fs : Frames) → ws ≡ us ++ vs → Stacked us fs → Spells 11 t vs → Fits (ws ++ Close ∷ []) (at_close t fs).frames (at_close t fs).hand
fits_close ws us vs t (f.Bracket ∷ fs) e s g =
    (s.0, Open ∷ (vs ++ Close ∷ []), move ws us vs Close e ∙ ap (λ z. z ++ (vs ++ Close ∷ [])) s.1 ∙ append_assoc s.0 (Open ∷ []) (vs ++ Close ∷ []), s.2, brackets t vs g)
fits_close ws us vs t [] e s g = tt
fits_close ws us vs t (f.Sign q ∷ fs) e s g = tt
fits_close ws us vs t (f.Left op a ∷ fs) e s g = tt
fits_close ws us vs t (f.Test c ∷ fs) e s g = tt
fits_close ws us vs t (f.Middle c a ∷ fs) e s g = tt

fits_held : (ws us hs : List Symbol) (t : Tree) (fs : Frames) (x : Symbol) → ws ≡ us ++ hs → Stacked us fs → Spells 0 t hs → Fits (ws ++ x ∷ []) (held trees fs t x).frames (held trees fs t x).hand
fits_held ws us hs t fs (Infix op) e s g =
    let c : Closes (looseness op) (us ++ hs) (reduced trees (looseness op) t fs) = closes (looseness op) 0 t us hs fs (omega (arith, loose_most op)) (omega arith) (omega arith) s g in
    (c.below, c.above, move ws c.below c.above (Infix op) (e ∙ c.same), c.spells, room_for (looseness op) (reduced trees (looseness op) t fs).0 (loose_most op) c.is_open, c.stacked)
fits_held ws us hs t fs Question e s g =
    let c : Closes 10 (us ++ hs) (reduced trees 10 t fs) = closes 10 0 t us hs fs (omega arith) (omega arith) (omega arith) s g in
    (c.below, c.above, move ws c.below c.above Question (e ∙ c.same), c.spells, whole_room (reduced trees 10 t fs).0 c.is_open, c.stacked)
fits_held ws us hs t fs Colon e s g =
    let c : Closes 11 (us ++ hs) (reduced trees 11 t fs) = closes 11 0 t us hs fs (omega arith) (omega arith) (omega arith) s g in
    fits_colon ws c.below c.above (reduced trees 11 t fs).1 (reduced trees 11 t fs).0 (e ∙ c.same) c.stacked c.spells
fits_held ws us hs t fs Close e s g =
    let c : Closes 11 (us ++ hs) (reduced trees 11 t fs) = closes 11 0 t us hs fs (omega arith) (omega arith) (omega arith) s g in
    fits_close ws c.below c.above (reduced trees 11 t fs).1 (reduced trees 11 t fs).0 (e ∙ c.same) c.stacked c.spells
fits_held ws us hs t fs (Operand v) e s g = tt
fits_held ws us hs t fs (Prefix q) e s g = tt
fits_held ws us hs t fs Open e s g = tt
fits_held ws us hs t fs Odd e s g = tt

fits_step : (ws : List Symbol) (fs : Frames) (x : Symbol) (hand : Hand Tree) → Fits ws fs hand → Fits (ws ++ x ∷ []) (step trees x fs hand).frames (step trees x fs hand).hand
fits_step ws fs x Waits h = fits_waited ws fs x h
fits_step ws fs x (Holds t) h = fits_held ws h.0 h.1 t fs x h.2 h.3 h.4
fits_step ws fs x Refused h = tt

spells_whole : (ws us vs : List Symbol) (t : Tree) (fs : Frames) → ws ≡ us ++ vs → Stacked us fs → Spells 11 t vs → SpellsAny 11 (whole t fs) ws
spells_whole ws us vs t [] e s g = subst (Spells 11 t) (sym (e ∙ ap (λ z. z ++ vs) s)) g
spells_whole ws us vs t (x ∷ fs) e s g = tt

spells_finished : (ws : List Symbol) (fs : Frames) (hand : Hand Tree) → Fits ws fs hand → SpellsAny 11 (finished trees fs hand) ws
spells_finished ws fs Waits h = tt
spells_finished ws fs (Holds t) h =
    let c : Closes 11 (h.0 ++ h.1) (reduced trees 11 t fs) = closes 11 0 t h.0 h.1 fs (omega arith) (omega arith) (omega arith) h.3 h.4 in
    spells_whole ws c.below c.above (reduced trees 11 t fs).1 (reduced trees 11 t fs).0 (h.2 ∙ c.same) c.stacked c.spells
spells_finished ws fs Refused h = tt

spells_run : (xs ws : List Symbol) (fs : Frames) (hand : Hand Tree) → Fits ws fs hand → SpellsAny 11 (run trees (record { frames = fs; hand = hand }) xs) (ws ++ xs)
spells_run [] ws fs hand h = subst (SpellsAny 11 (finished trees fs hand)) (sym (append-nil ws)) (spells_finished ws fs hand h)
spells_run (x ∷ xs) ws fs hand h =
    subst (SpellsAny 11 (run trees (step trees x fs hand) xs)) (append_assoc ws (x ∷ []) xs)
    (spells_run xs (ws ++ x ∷ []) (step trees x fs hand).frames (step trees x fs hand).hand (fits_step ws fs x hand h))

pub spells_read : (xs : List Symbol) → SpellsAny 11 (run trees start xs) xs
spells_read xs = spells_run xs [] [] Waits refl
