-- Reading symbols from left to right, with a stack of what is open, topmost first.
use Rattle.std.specs.Prelude.{◌≡◌, ℕ, Bool, true, false, ◌&&◌, ◌||◌, nat_le, if◌then◌else◌, List, [], ◌∷◌, Option, Some, None, is_some, Err}
use Rattle.cr_cond.specs.declared.CondFault.TheVariants.{Syntax, Constant}
use Rattle.cr_cond.specs.declared.symbol.Value.{Value}
use Rattle.cr_cond.specs.declared.symbol.Sign.{Sign}
use Rattle.cr_cond.specs.declared.symbol.Op.{Op}
use Rattle.cr_cond.specs.declared.symbol.Symbol.{Symbol}
use Rattle.cr_cond.specs.declared.symbol.Symbol.TheVariants.{Operand, Prefix, Infix, Question, Colon, Open, Close}
use Rattle.cr_cond.specs.declared.machine.Part.{Part}
use Rattle.cr_cond.specs.declared.machine.Frame.{Frame}
use Rattle.cr_cond.specs.declared.machine.Frame.TheVariants as f
use Rattle.cr_cond.specs.declared.machine.Hand.{Hand}
use Rattle.cr_cond.specs.declared.machine.Hand.TheVariants.{Waits, Holds, Refused}
use Rattle.cr_base.specs.declared.token.PpTok.{PpTok}
use Rattle.cr_cond.specs.Symbols.{lexeme, symbol, looseness}
use Rattle.cr_cond.specs.Reading.{Tree, Leaf, Signed, Binary, Choice}
use Rattle.cr_cond.specs.Value.{Outcome, and_then, is_zero, with_sign, by_left, typed, is_unsigned_by, is_unsigned_sign, is_unsigned_leaf, is_unsigned, leaf, eval, has_constants}

-- what is made of operands, signs and operators
pub record Making (A : Type 0) : Type 0 where
  pub leaf : Option Value → A
  pub signed : Sign → A → A
  pub binary : Op → A → A → A
  pub choice : A → A → A → A

abbrev pub trees : Making Tree
trees = record { leaf = Leaf; signed = Signed; binary = Binary; choice = Choice }

-- what is known of a tree
abbrev pub part_of : Tree → Part
part_of t = record { unsigned = is_unsigned t; constants = has_constants t; value = eval t }

abbrev pub part_leaf : Option Value → Part
part_leaf a = record { unsigned = is_unsigned_leaf a; constants = is_some a; value = leaf a }

abbrev pub part_signed : Sign → Part → Part
part_signed s a = record { unsigned = is_unsigned_sign a.unsigned s; constants = a.constants; value = and_then a.value (λ x. with_sign x s) }

abbrev pub part_binary : Op → Part → Part → Part
part_binary op a b = record { unsigned = is_unsigned_by a.unsigned b.unsigned op; constants = a.constants && b.constants; value = and_then a.value (λ x. by_left x b.value op) }

abbrev pub chosen : Part → Part → Value → Outcome
chosen a b x = and_then (if is_zero x then b.value else a.value) (typed (a.unsigned || b.unsigned))

abbrev pub part_choice : Part → Part → Part → Part
part_choice c a b = record {
  unsigned = a.unsigned || b.unsigned;
  constants = c.constants && a.constants && b.constants;
  value = and_then c.value (chosen a b);
}

abbrev pub parts : Making Part
parts = record { leaf = part_leaf; signed = part_signed; binary = part_binary; choice = part_choice }

-- how loosely what a frame is open for binds; brackets and `?` are closed by `)` and `:` alone
abbrev pub level : {A : Type 0} → Frame A → ℕ
level (f.Sign s) = 0
level (f.Left op a) = looseness op
level (f.Middle c a) = 11
level f.Bracket = 12
level (f.Test c) = 12

-- a frame with its last operand
abbrev pub closed : {A : Type 0} → Making A → A → Frame A → A
closed m t (f.Sign s) = m.signed s t
closed m t (f.Left op a) = m.binary op a t
closed m t (f.Middle c a) = m.choice c a t
closed m t f.Bracket = t
closed m t (f.Test c) = t

pub record State (A : Type 0) : Type 0 where
  pub frames : List (Frame A)
  pub hand : Hand A

abbrev pub state_of : {A : Type 0} → List (Frame A) → Hand A → State A
state_of xs hand = record { frames = xs; hand = hand }

-- the frames that bind at most so loosely are closed
abbrev pub reduced : {A : Type 0} → Making A → ℕ → A → List (Frame A) → List (Frame A) × A
reduced m n t [] = ([], t)
reduced m n t (x ∷ xs) = if nat_le (level x) n then reduced m n (closed m t x) xs else (x ∷ xs, t)

abbrev pub at_colon : {A : Type 0} → A → List (Frame A) → State A
at_colon t [] = record { frames = []; hand = Refused }
at_colon t (f.Test c ∷ xs) = record { frames = f.Middle c t ∷ xs; hand = Waits }
at_colon t (x ∷ xs) = record { frames = xs; hand = Refused }

abbrev pub at_close : {A : Type 0} → A → List (Frame A) → State A
at_close t [] = record { frames = []; hand = Refused }
at_close t (f.Bracket ∷ xs) = record { frames = xs; hand = Holds t }
at_close t (x ∷ xs) = record { frames = xs; hand = Refused }

abbrev pub pushed : {A : Type 0} → Frame A → List (Frame A) → State A
pushed x xs = record { frames = x ∷ xs; hand = Waits }

abbrev pub refused : {A : Type 0} → List (Frame A) → State A
refused xs = record { frames = xs; hand = Refused }

-- where an operand is waited for
abbrev pub waited : {A : Type 0} → Making A → List (Frame A) → Symbol → State A
waited m xs (Operand a) = record { frames = xs; hand = Holds (m.leaf a) }
waited m xs (Prefix s) = pushed (f.Sign s) xs
waited m xs Open = pushed f.Bracket xs
waited m xs _ = refused xs

-- where one stands
abbrev pub held : {A : Type 0} → Making A → List (Frame A) → A → Symbol → State A
held m xs t (Infix op) = let r = reduced m (looseness op) t xs in pushed (f.Left op r.1) r.0
held m xs t Question = let r = reduced m 10 t xs in pushed (f.Test r.1) r.0
held m xs t Colon = let r = reduced m 11 t xs in at_colon r.1 r.0
held m xs t Close = let r = reduced m 11 t xs in at_close r.1 r.0
held m xs t _ = refused xs

abbrev pub step : {A : Type 0} → Making A → Symbol → List (Frame A) → Hand A → State A
step m x xs Waits = waited m xs x
step m x xs (Holds t) = held m xs t x
step m x xs Refused = refused xs

abbrev pub whole : {A : Type 0} → A → List (Frame A) → Option A
whole t [] = Some t
whole t (x ∷ xs) = None

-- what was read, at the end
abbrev pub finished : {A : Type 0} → Making A → List (Frame A) → Hand A → Option A
finished m xs Waits = None
finished m xs (Holds t) = let r = reduced m 11 t xs in whole r.1 r.0
finished m xs Refused = None

-- what is read of the symbols from a state on
abbrev pub run : {A : Type 0} → Making A → State A → List Symbol → Option A
run m s [] = finished m s.frames s.hand
run m s (x ∷ xs) = run m (step m x s.frames s.hand) xs

abbrev pub start : {A : Type 0} → State A
start = record { frames = []; hand = Waits }

-- whether the topmost frame binds at most so loosely
abbrev pub IsShut : {A : Type 0} → ℕ → List (Frame A) → Bool → Type 0
IsShut n [] b = Unit {0}
IsShut n (x ∷ xs) b = nat_le (level x) n ≡ b

abbrev pub is_bottom : {A : Type 0} → List (Frame A) → Bool
is_bottom [] = true
is_bottom (x ∷ xs) = false

abbrev pub is_holding : {A : Type 0} → Hand A → Bool
is_holding Waits = false
is_holding (Holds t) = true
is_holding Refused = false

abbrev pub is_refused : {A : Type 0} → Hand A → Bool
is_refused Waits = false
is_refused (Holds t) = false
is_refused Refused = true

-- the value of what was read, or the fault
abbrev pub by_part : Option Part → Outcome
by_part None = Err Syntax
by_part (Some a) = if a.constants then a.value else Err Constant

-- what a token is where the machine stands
abbrev pub next_symbol : List (List ℕ) → PpTok → Hand Part → Symbol
next_symbol names t hand = symbol (is_holding hand) t.kind (lexeme names t).text
