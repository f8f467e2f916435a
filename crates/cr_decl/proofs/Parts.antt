-- The parts of a declarator give its type.
use Rattle.std.proofs.Common.{◌≡◌, List, [], ◌∷◌, ◌++◌, map, refl, sym, ◌∙◌, ap}
use Rattle.cr_types.specs.declared.Part.{Part}
use Rattle.cr_types.specs.declared.Part.TheVariants as part
use Rattle.cr_types.specs.Types.{CType, Ptr, Arr, Fun, derived, derived_by}
use Rattle.cr_decl.specs.Declarators.{Suffix, brackets, parameters, Declarator, name, star, suffixed, suffixes, declared_type, part_of, parts_of}

pub derived_by-append : (ps qs : List Part) (c : CType) → derived_by (ps ++ qs) c ≡ derived_by ps (derived_by qs c)
derived_by-append [] qs c = refl
derived_by-append (p ∷ ps) qs c = ap (derived p) (derived_by-append ps qs c)

pub suffixes_are : (ss : List Suffix) (c : CType) → derived_by (map part_of ss) c ≡ suffixes c ss
suffixes_are [] c = refl
suffixes_are (brackets ∷ ss) c = ap Arr (suffixes_are ss c)
suffixes_are (parameters ∷ ss) c = ap Fun (suffixes_are ss c)

pub parts_are : (base : CType) (d : Declarator) → derived_by (parts_of d) base ≡ declared_type base d
parts_are base name = refl
parts_are base (star d) = derived_by-append (parts_of d) (part.Pointer ∷ []) base ∙ parts_are (Ptr base) d
parts_are base (suffixed d ss) =
    derived_by-append (parts_of d) (map part_of ss) base ∙ ap (derived_by (parts_of d)) (suffixes_are ss base) ∙ parts_are (suffixes base ss) d

pub declarator_is : (base c : CType) (ps : List Part) → c ≡ derived_by ps base → (d : Declarator) → parts_of d ≡ ps → c ≡ declared_type base d
declarator_is base c ps e d q = e ∙ ap (λ z. derived_by z base) (sym q) ∙ parts_are base d
