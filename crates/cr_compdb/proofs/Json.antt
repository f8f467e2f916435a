-- The reading of bytes as JSON.
use Rattle.std.proofs.Common.{◌≡◌, ℕ, Bool, true, false, List, refl}
use Rattle.std.specs.Prelude.{Option, Some, None, if◌then◌else◌}
use Rattle.std.specs.Str.{is_utf8, IsUtf8}
use Rattle.std.proofs.lemmas.Str.{IsUtf8-from_is_utf8, is_utf8-from_IsUtf8}
use Rattle.serde_json.specs.Data.{Data}
use Rattle.serde_json.specs.Read.{read}
use Rattle.cr_compdb.specs.Database.{json_of}

pub json_read : (bytes : List ℕ) (d : Data) → IsUtf8 bytes → read bytes ≡ Some d → json_of bytes ≡ Some d
json_read bytes d text is = rw (is_utf8-from_IsUtf8 bytes text) is

unread : (b : Bool) (found : Option Data) → (b ≡ true → found ≡ None) → (if b then found else None) ≡ None
unread true found h = h refl
unread false found h = refl

pub json_refused : (bytes : List ℕ) → (IsUtf8 bytes → read bytes ≡ None) → json_of bytes ≡ None
json_refused bytes h = unread (is_utf8 bytes) (read bytes) (λ e. h (IsUtf8-from_is_utf8 bytes e))
