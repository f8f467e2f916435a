-- The edits that the code makes of the files that it knows. No contract of another crate cites it.
use Rattle.std.specs.Prelude.{ℕ, ◌<◌, List, length, map, Vec}
use Rattle.std.specs.List.{AllByRecursion}
use Rattle.std.specs.declared.alloc.Global.{Global}
use Rattle.cr_base.specs.declared.token.PpTok.{PpTok}
use Rattle.cr_base.specs.Substitution.{substituted}
use Rattle.cr_snapshot.specs.Files.{finding}
use Rattle.cr_snapshot.specs.declared.known.KnownFile.{KnownFile}
use Rattle.cr_class.specs.Verdict.{present_bytes}
use Rattle.cr_edit.specs.declared.edits.FileEdit.{FileEdit}
use Rattle.cr_plan.specs.Outcome.{Offsets}

-- a table of names has the text of each token
abbrev pub AreNamed : List (List ℕ) → List PpTok → Type 0
AreNamed names tokens = AllByRecursion (λ (t : PpTok). t.text.0 < length names) tokens

-- the offsets that a map of the code has
abbrev pub shown_entry : List ℕ × Vec ℕ Global → List ℕ × List ℕ
shown_entry entry = (entry.0, entry.1.items)

abbrev pub shown_entries : List (List ℕ × Vec ℕ Global) → Offsets
shown_entries entries = map shown_entry entries

abbrev pub edit_over : List KnownFile → ℕ → List ℕ → List ℕ × List ℕ → FileEdit
edit_over files old_len new entry = record {
  path = entry.0;
  offsets = entry.1;
  edited = substituted entry.1 old_len new (present_bytes (finding entry.0 files));
}
