-- Frames with room for an operand above them.
use Rattle.std.proofs.Common.{◌≡◌, ℕ, suc, ◌-◌, ◌≤◌, ◌<◌, true, false, cond, List, [], ◌∷◌, refl, ap, arith}
use Rattle.std.specs.Prelude.{nat_le}
use Rattle.std.proofs.lemmas.Bool.Decides.{nat_tests}
use Rattle.cr_cond.specs.declared.symbol.Op.{Op}
use Rattle.cr_cond.specs.declared.symbol.Op.TheVariants.{Or, And, BitOr, BitXor, BitAnd, Equal, Unequal, Less, Greater, AtMost, AtLeast, Left, Right, Add, Subtract, Times, Divide, Remainder}
use Rattle.cr_cond.specs.declared.machine.Frame.{Frame}
use Rattle.cr_cond.specs.declared.machine.Frame.TheVariants as f
use Rattle.cr_cond.specs.Symbols.{looseness}
use Rattle.cr_cond.specs.Reading.{Tree}
use Rattle.cr_cond.specs.Machine.{trees, level, closed, reduced}

abbrev pub Frames : Type 0
Frames = List (Frame Tree)

-- how loosely an operand above these frames may bind
abbrev pub room : List (Frame Tree) → ℕ
room [] = 11
room (f.Sign s ∷ xs) = 0
room (f.Left op a ∷ xs) = looseness op - 1
room (f.Middle c a ∷ xs) = 11
room (f.Bracket ∷ xs) = 11
room (f.Test c ∷ xs) = 11

pub loose_most : (op : Op) → looseness op ≤ 10
loose_most Or = omega arith
loose_most And = omega arith
loose_most BitOr = omega arith
loose_most BitXor = omega arith
loose_most BitAnd = omega arith
loose_most Equal = omega arith
loose_most Unequal = omega arith
loose_most Less = omega arith
loose_most Greater = omega arith
loose_most AtMost = omega arith
loose_most AtLeast = omega arith
loose_most Left = omega arith
loose_most Right = omega arith
loose_most Add = omega arith
loose_most Subtract = omega arith
loose_most Times = omega arith
loose_most Divide = omega arith
loose_most Remainder = omega arith

pub loose_least : (op : Op) → 1 ≤ looseness op
loose_least Or = omega arith
loose_least And = omega arith
loose_least BitOr = omega arith
loose_least BitXor = omega arith
loose_least BitAnd = omega arith
loose_least Equal = omega arith
loose_least Unequal = omega arith
loose_least Less = omega arith
loose_least Greater = omega arith
loose_least AtMost = omega arith
loose_least AtLeast = omega arith
loose_least Left = omega arith
loose_least Right = omega arith
loose_least Add = omega arith
loose_least Subtract = omega arith
loose_least Times = omega arith
loose_least Divide = omega arith
loose_least Remainder = omega arith

pub open_frame : (n : ℕ) (t : Tree) (x : Frame Tree) (xs : Frames) → n < level x → reduced trees n t (x ∷ xs) ≡ (x ∷ xs, t)
open_frame n t x xs h = let e : nat_le (level x) n ≡ false = grind (arith, nat_tests) in ap (λ b. cond b (reduced trees n (closed trees t x) xs) (x ∷ xs, t)) e

pub shut_frame : (n : ℕ) (t : Tree) (x : Frame Tree) (xs : Frames) → level x ≤ n → reduced trees n t (x ∷ xs) ≡ reduced trees n (closed trees t x) xs
shut_frame n t x xs h = let e : nat_le (level x) n ≡ true = grind (arith, nat_tests) in ap (λ b. cond b (reduced trees n (closed trees t x) xs) (x ∷ xs, t)) e

-- frames with room for an operator stay open before it
pub stays_open : (n : ℕ) (t : Tree) (xs : Frames) → n ≤ 9 → suc n ≤ room xs → reduced trees (suc n) t xs ≡ (xs, t)
stays_open n t [] b h = refl
stays_open n t (f.Sign s ∷ xs) b h = absurd (omega arith)
stays_open n t (f.Left op a ∷ xs) b h = open_frame (suc n) t (f.Left op a) xs (omega arith)
stays_open n t (f.Middle c a ∷ xs) b h = open_frame (suc n) t (f.Middle c a) xs (omega arith)
stays_open n t (f.Bracket ∷ xs) b h = open_frame (suc n) t f.Bracket xs (omega arith)
stays_open n t (f.Test c ∷ xs) b h = open_frame (suc n) t (f.Test c) xs (omega arith)
