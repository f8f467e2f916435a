-- The types of declarators (C11 6.7.6).
use Rattle.std.specs.Prelude.{◌≡◌, List, [], ◌∷◌, ◌++◌, map}
use Rattle.cr_types.specs.declared.Part.{Part}
use Rattle.cr_types.specs.declared.Part.TheVariants as part
use Rattle.cr_types.specs.Types.{CType, Ptr, Arr, Fun, derived_by}

-- what can stand right of a declarator
pub data Suffix : Type 0 where
  brackets : Suffix
  parameters : Suffix

-- A declarator: a name or, where it is abstract, nothing; one after a `*`; or one with suffixes, in parentheses where
-- it isn't a name.
pub data Declarator : Type 0 where
  name : Declarator
  star : Declarator → Declarator
  suffixed : Declarator → List Suffix → Declarator

-- the type that suffixes make of a type: the last one is the innermost (6.7.6.2, 6.7.6.3)
abbrev pub suffixes : CType → List Suffix → CType
suffixes base [] = base
suffixes base (brackets ∷ rest) = Arr (suffixes base rest)
suffixes base (parameters ∷ rest) = Fun (suffixes base rest)

-- the type that a declarator makes of the type of its specifiers: what stands outside it comes first (6.7.6.1 to 6.7.6.3)
abbrev pub declared_type : CType → Declarator → CType
declared_type base name = base
declared_type base (star d) = declared_type (Ptr base) d
declared_type base (suffixed d ss) = declared_type (suffixes base ss) d

abbrev pub part_of : Suffix → Part
part_of brackets = part.Array
part_of parameters = part.Function

-- the derivations of a declarator, the outermost one first
abbrev pub parts_of : Declarator → List Part
parts_of name = []
parts_of (star d) = parts_of d ++ part.Pointer ∷ []
parts_of (suffixed d ss) = parts_of d ++ map part_of ss

-- The derivations of a declarator, applied one by one, give its type.
abbrev pub PartsMeanTheDeclarator : Type 0
PartsMeanTheDeclarator = (base : CType) (d : Declarator) → derived_by (parts_of d) base ≡ declared_type base d
