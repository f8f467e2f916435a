-- The types of expressions (C11 6.5), as far as members need them.
use Rattle.std.specs.Prelude.{Bool, true, false, eqb, Option, Some, None, unwrap_or, if◌then◌else◌}
use Rattle.std.specs.Option.{option_or}
use Rattle.cr_types.specs.Types.{CType, Void, Arith, Mixed, Ptr, Arr, Fun, Rec}
use Rattle.cr_typing.specs.declared.expressions.Op.{Op}
use Rattle.cr_typing.specs.declared.expressions.Op.TheVariants as op

-- an operand: an array is a pointer to its element, and a function a pointer to it (6.3.2.1p3, p4)
abbrev pub decayed : CType → CType
decayed (Arr c) = Ptr c
decayed (Fun c) = Ptr (Fun c)
decayed c = c

-- what a pointer points to
abbrev pub pointee : CType → Option CType
pointee (Ptr c) = Some c
pointee _ = None

-- what an operand points to
abbrev pub pointed : CType → Option CType
pointed c = pointee (decayed c)

abbrev pub same_type : CType → CType → Bool
same_type Void Void = true
same_type Arith Arith = true
same_type Mixed Mixed = true
same_type (Ptr c) (Ptr d) = same_type c d
same_type (Arr c) (Arr d) = same_type c d
same_type (Fun c) (Fun d) = same_type c d
same_type (Rec n) (Rec m) = eqb n m
same_type _ _ = false

abbrev pub pointer_or_arith : Option CType → CType
pointer_or_arith None = Arith
pointer_or_arith (Some c) = Ptr c

-- what a function returns that is called by a pointer to it (6.5.2.2p5)
abbrev pub returned : Option CType → CType
returned (Some (Fun c)) = c
returned _ = Arith

-- a pointer less an integer is a pointer, less another pointer it isn't (6.5.6p8, p9)
abbrev pub difference : Option CType → Option CType → CType
difference (Some c) None = Ptr c
difference _ _ = Arith

-- The results of `?:` as operands (6.5.15p5, p6). Where one of them is a pointer the type is a pointer's; a pointer to
-- void gives way to any other.
abbrev pub chosen : CType → CType → CType
chosen (Rec n) d = Rec n
chosen (Ptr Void) (Ptr d) = Ptr d
chosen (Ptr c) d = Ptr c
chosen c (Ptr d) = Ptr d
chosen c d = c

-- the type of a generic selection of which two results have these types: that of both, or Mixed
abbrev pub of_both : CType → CType → CType
of_both c d = if same_type c d then c else Mixed

-- the operators of two operands: every other one is arithmetic
abbrev pub binary_type : Op → CType → CType → CType
binary_type op.Index c d = unwrap_or (option_or (pointed c) (pointed d)) Arith
binary_type op.Plus c d = pointer_or_arith (option_or (pointed c) (pointed d))
binary_type op.Minus c d = difference (pointed c) (pointed d)
binary_type op.Assign c d = c
binary_type op.Comma c d = decayed d
binary_type op.Choice c d = chosen (decayed c) (decayed d)
binary_type op.Generic c d = of_both c d
binary_type _ c d = Arith

-- those of one operand
abbrev pub unary_type : Op → CType → CType
unary_type op.Call c = returned (pointed c)
unary_type op.Address c = Ptr c
unary_type op.Deref c = unwrap_or (pointed c) Arith
unary_type op.Step c = decayed c
unary_type _ c = Arith

abbrev pub is_binary : Op → Bool
is_binary op.Index = true
is_binary op.Plus = true
is_binary op.Minus = true
is_binary op.Other = true
is_binary op.Assign = true
is_binary op.Comma = true
is_binary op.Choice = true
is_binary op.Generic = true
is_binary _ = false

abbrev pub is_unary : Op → Bool
is_unary op.Call = true
is_unary op.Address = true
is_unary op.Deref = true
is_unary op.Step = true
is_unary op.Other = true
is_unary _ = false
