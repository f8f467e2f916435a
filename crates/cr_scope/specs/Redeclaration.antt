-- Which declarations of one name may not stand beside each other (C11 6.7p3, 6.2.2p7).
use Rattle.std.specs.Prelude.{ℕ, Bool, true, false, not, ◌&&◌, ◌||◌, eqb, List, [], ◌∷◌}
use Rattle.std.specs.List.{list_any}
use Rattle.cr_base.specs.declared.Kind.{Kind}
use Rattle.cr_base.specs.declared.Kind.TheVariants as kind
use Rattle.cr_scope.specs.declared.Decl.{Decl}
use Rattle.cr_scope.specs.declared.Linkage.{Linkage}
use Rattle.cr_scope.specs.declared.Linkage.TheVariants as linkage
use Rattle.cr_scope.specs.Declarations.{Entry, Flat, entry, same_space, same_name}
use Rattle.cr_scope.specs.Linkage.{has_linkage}

abbrev pub same_path : List ℕ → List ℕ → Bool
same_path [] [] = true
same_path (a ∷ p) (b ∷ q) = eqb a b && same_path p q
same_path _ _ = false

-- Two declarations in one scope and name space may be of one function or object with linkage, of one type name,
-- or of one tag.
abbrev pub repeats : (linked : Bool) → Kind → Kind → Bool
repeats linked kind.Function kind.Function = linked
repeats linked kind.Object kind.Object = linked
repeats linked kind.Typedef kind.Typedef = true
repeats linked kind.Struct kind.Struct = true
repeats linked kind.Union kind.Union = true
repeats linked kind.Enum kind.Enum = true
repeats linked _ _ = false

abbrev pub may_repeat : Decl → Decl → Bool
may_repeat d e = repeats (has_linkage d.linkage && has_linkage e.linkage) d.kind e.kind

-- one has internal and the other external linkage
abbrev pub are_opposite : Linkage → Linkage → Bool
are_opposite linkage.Internal linkage.External = true
are_opposite linkage.External linkage.Internal = true
are_opposite _ _ = false

-- d may not be declared where e was: it is a second declaration in one scope and space that may not repeat it, or
-- its name has the other linkage
abbrev pub clashes : Entry → Entry → Bool
clashes d e =
    same_name d.decl.name e.decl.name
    && ((same_path d.path e.path && (same_space d.decl.space e.decl.space && not (may_repeat d.decl e.decl)))
    || are_opposite d.decl.linkage e.decl.linkage)

-- whether a declaration in the present scope clashes with one of those before it
abbrev pub is_redeclared : Flat → Decl → Bool
is_redeclared f d = list_any (clashes (entry f d)) f.entries
