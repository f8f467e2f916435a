-- Tokens that are fed.
use Rattle.std.specs.Prelude.{◌≡◌, ◌<◌, List, [], ◌++◌, length, map}
use Rattle.cr_base.specs.declared.token.PpTok.{PpTok}
use Rattle.cr_expand.specs.declared.held.Held.{Held}
use Rattle.cr_expand.specs.declared.hide_sets.HideSet.{HideSet}
use Rattle.cr_expand.specs.declared.slot.Slot.{Slot}
use Rattle.cr_expand.specs.HideSets.{Sets, set_at}
use Rattle.cr_expand.specs.Slots.{tokens}

-- tokens with this hide set
abbrev pub all_with : HideSet → List PpTok → List Held
all_with hide = map {A = PpTok} (λ t. record { token = t; hide = hide })

-- The tokens are behind the slots, with nothing hidden from them.
abbrev pub IsPutBack : Sets → List Slot → List Slot → List PpTok → Type 0
IsPutBack sets old now fed = (hide : HideSet) × (hide.0 < length sets) × (set_at sets hide.0 ≡ []) × (now ≡ old ++ tokens (all_with hide fed))
