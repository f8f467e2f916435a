-- The name of a text that was put into the table.
use Rattle.std.proofs.Common.{List, [], refl}
use Rattle.std.proofs.lemmas.Option.{get_or_from_slice_get, slice_get_within}
use Rattle.cr_base.specs.NameTable.{Interns, IsDistinct}
use Rattle.cr_base.specs.declared.token.Name.{Name}
use Rattle.cr_base.specs.declared.token.PpKind.{PpKind}
use Rattle.cr_macros.specs.Tokens.{Text}
use Rattle.cr_expand.specs.Predefines.{IsGivenText}
use Rattle.cr_expand.proofs.Kept.{interned_grows}

pub interned_given : (names new : List Text) (kind : PpKind) (text : Text) (n : Name) → Interns names text new n.0 → IsDistinct new → IsGivenText names new (kind, text) (kind, n)
interned_given names new kind text n i d = record {
  kind = refl;
  text = get_or_from_slice_get new n.0 _ [] i.1;
  named = slice_get_within new n.0 _ i.1;
  grows = interned_grows _ names new _ i.0;
  distinct = d;
}
