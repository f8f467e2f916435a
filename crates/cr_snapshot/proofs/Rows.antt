-- The definition of the places of an include on examples.
use Rattle.std.proofs.Common.{◌≡◌, true, false, [], ◌∷◌, refl}
use Rattle.std.specs.Prelude.{codes}
use Rattle.cr_base.specs.declared.unit.Unit.{Unit}
use Rattle.cr_snapshot.specs.BuiltIns.{is_built_in}
use Rattle.cr_snapshot.specs.IncludeSearch.{candidates}

abbrev the_unit : Unit
the_unit = record {
  number = 3;
  main = codes "w/m.c";
  directory = codes "w";
  quote_dirs = codes "w/q" ∷ [];
  dirs = codes "w/i" ∷ [];
  system_dirs = codes "/s" ∷ [];
  words = [];
}

quoted : candidates the_unit (codes "w/x/y.h") false (codes "a.h") ≡ codes "w/x/a.h" ∷ codes "w/q/a.h" ∷ codes "w/i/a.h" ∷ codes "/s/a.h" ∷ []
unfolding is_built_in
quoted = refl

angled : candidates the_unit (codes "w/x/y.h") true (codes "stdio.h") ≡ codes "w/i/stdio.h" ∷ codes "/s/stdio.h" ∷ codes "//stdio.h" ∷ []
unfolding is_built_in
angled = refl

from_words : candidates the_unit (codes "//words/3") false (codes "a.h") ≡ codes "w/a.h" ∷ codes "w/q/a.h" ∷ codes "w/i/a.h" ∷ codes "/s/a.h" ∷ []
unfolding is_built_in
from_words = refl

from_a_header : candidates the_unit (codes "//stdio.h") false (codes "stddef.h") ≡ codes "w/q/stddef.h" ∷ codes "w/i/stddef.h" ∷ codes "/s/stddef.h" ∷ codes "//stddef.h" ∷ []
unfolding is_built_in
from_a_header = refl

absolute : candidates the_unit (codes "w/m.c") false (codes "//stdio.h") ≡ codes "/stdio.h" ∷ []
absolute = refl
