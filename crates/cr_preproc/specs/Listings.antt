-- The list of a directive while it is expanded: what it gave and still gives, and what one more use of a rule does.
use Rattle.std.specs.Prelude.{◌≡◌, ◌≤◌, ◌-◌, List, [], ◌++◌, map}
use Rattle.cr_macros.specs.Tokens.{Token, tokens_of, Event as Telling, Gave}
use Rattle.cr_expand.specs.Expanders.{plain}
use Rattle.cr_expand.specs.Running.{leads}
use Rattle.cr_expand.specs.declared.machine.TheConstants.{LIMIT}
use Rattle.cr_preproc.specs.declared.listing.Listing.{Listing}
use Rattle.cr_preproc.specs.declared.listing.Listed.{Listed}
use Rattle.cr_preproc.specs.declared.listing.Listed.TheVariants as listed
use Rattle.cr_preproc.specs.declared.progress.Progress.{Progress}
use Rattle.cr_phase4.specs.Tasks.{End, Reply, Task, moved}
use Rattle.cr_preproc.specs.Expanding.{IsExpanding, IsOneUse, IsNoted, StopsAt, still_in, end_by}
use Rattle.cr_preproc.specs.Leading.{list_left}
use Rattle.cr_preproc.specs.Progressing.{state_of}
use Rattle.cr_preproc.specs.Seen.{AreNamed}

-- The tables gave what the expansion holds and the tokens that it gave.
pub record IsListing (p : Progress) (l : Listing) : Type 0 where
  pub expanding : IsExpanding p l.expansion.value
  pub given : AreNamed p.names l.given.items

-- what is left of the list and of what it is for
abbrev pub listing_left : {A : Type 0} → Progress → Listing → (List Token → Task A) → Reply A
listing_left p l k = list_left l.hash (state_of p) (tokens_of p.names l.given.items) (still_in p l.expansion.value) k

-- One use of a rule told this and gave these tokens, which are kept without what is hidden from them.
pub record IsOneMore (old now : Progress) (l m : Listing) : Type 0 where
  pub told : List Telling
  pub gave : List Token
  pub one : IsOneUse told
  pub still : still_in old l.expansion.value ≡ leads gave told (still_in now m.expansion.value)
  pub given : map plain (tokens_of old.names l.given.items ++ gave) ≡ map plain (tokens_of now.names m.given.items)
  pub noted : IsNoted old now told
  pub listing : IsListing now m
  pub literal : m.expansion.value.expander.machine.file ≡ l.expansion.value.expander.machine.file
  pub hash : m.hash ≡ l.hash

-- All is expanded, with so much work used in all.
pub record IsListEnd (old now : Progress) (l m : Listing) : Type 0 where
  pub same : now ≡ old
  pub limit : m.expansion.value.expander.machine.used ≤ LIMIT
  pub still : still_in old l.expansion.value ≡ Gave [] (LIMIT - m.expansion.value.expander.machine.used) []
  pub given : m.given ≡ l.given
  pub hash : m.hash ≡ l.hash

-- The expansion stops, and the unit ends by that at the `#`.
pub record IsListFault (old now : Progress) (l : Listing) (end : End) : Type 0 where
  pub cause : End
  pub stops : StopsAt (still_in old l.expansion.value) cause
  pub moves : end ≡ moved l.hash cause
  pub noted : IsNoted old now []

-- What one more step of a list leads to.
abbrev pub IsListed : Progress → Progress → Listing → Listing → Listed → Type 0
IsListed old now l m listed.Goes = IsOneMore old now l m
IsListed old now l m listed.Ends = IsListEnd old now l m
IsListed old now l m (listed.Fails fault) = IsListFault old now l (end_by fault)
