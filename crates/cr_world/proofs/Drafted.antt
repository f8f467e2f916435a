-- A file that is made, written and synced.
use Rattle.std.specs.Prelude.{ℕ, ◌≡◌, List, [], ◌++◌, Some}
use Rattle.std.proofs.Common.{◌∙◌}
use Rattle.cr_world.specs.Outside.{Files}
use Rattle.cr_world.specs.Disks.{SameFiles, Appends, Drafts}
use Rattle.cr_world.specs.declared.outside.DoneEnd.{DoneEnd}
use Rattle.cr_world.specs.declared.outside.DoneEnd.TheVariants as done

module _ (x y z : Files) (path piece : List ℕ) where
  pub appends_stay : (e : DoneEnd) → Appends done.Done path piece x y → SameFiles y z → Appends e path piece x z
  appends_stay done.Done a same = ((λ bytes is. same path ∙ a.0 bytes is), (λ other apart. same other ∙ a.1 other apart))
  appends_stay done.Failed a same = λ other apart. same other ∙ a.1 other apart

  pub drafts_of : (e : DoneEnd) → SameFiles x y → Appends e path piece y z → x path ≡ Some [] → Drafts e path piece x z
  drafts_of done.Done same a is = (a.0 [] (same path ∙ is), (λ other apart. a.1 other apart ∙ same other))
  drafts_of done.Failed same a is = λ other apart. a other apart ∙ same other
