-- The linkage of a declaration (C11 6.2.2).
use Rattle.std.specs.Prelude.{ℕ, Bool, true, false, ◌&&◌, ◌||◌, if◌then◌else◌, Option, Some, None, List, [], ◌∷◌, position, slice_get}
use Rattle.cr_base.specs.declared.Name.{Name}
use Rattle.cr_scope.specs.declared.Space.TheVariants as space
use Rattle.cr_scope.specs.declared.Linkage.{Linkage}
use Rattle.cr_scope.specs.declared.Linkage.TheVariants as linkage
use Rattle.cr_scope.specs.Declarations.{Entry, Flat, same_name, lookup}

abbrev pub has_linkage : Linkage → Bool
has_linkage linkage.None = false
has_linkage linkage.Internal = true
has_linkage linkage.External = true

abbrev pub is_linked : Entry → Bool
is_linked e = has_linkage e.decl.linkage

-- the linkage that the visible declaration has, else external (6.2.2p4)
abbrev pub linkage_or_external : Linkage → Linkage
linkage_or_external linkage.None = linkage.External
linkage_or_external linkage.Internal = linkage.Internal
linkage_or_external linkage.External = linkage.External

abbrev pub linkage_seen : Option Entry → Linkage
linkage_seen None = linkage.External
linkage_seen (Some e) = linkage_or_external e.decl.linkage

abbrev pub is_file_scope : List ℕ → Bool
is_file_scope [] = true
is_file_scope (n ∷ p) = false

-- the declaration that a lookup gave
abbrev pub entry_at : List Entry → Option ℕ → Option Entry
entry_at es None = None
entry_at es (Some i) = slice_get es i

-- The linkage of an object or a function by its storage words, where seen is the visible declaration of its name:
-- `static` is internal at file scope (p3) and none in a block (p6); `extern`, and a function without a storage word
-- (p5), take what is seen (p4); any other object has external linkage at file scope (p5) and none in a block (p6).
abbrev pub linkage_by : (file_scope static extern function : Bool) → Option Entry → Linkage
linkage_by file_scope static extern function seen =
    if static
    then (if file_scope then linkage.Internal else linkage.None)
    else (if extern || function then linkage_seen seen else (if file_scope then linkage.External else linkage.None))

abbrev pub linkage_of : Flat → Name → (static extern function : Bool) → Linkage
linkage_of f name static extern function =
    linkage_by (is_file_scope f.present) static extern function (entry_at f.entries (lookup f.present space.Ordinary name f.entries))

-- the first declaration of a name with linkage, visible or not
abbrev pub linked : Name → List Entry → Option ℕ
linked name es = position (λ e. is_linked e && same_name e.decl.name name) es
