-- The end of a node puts back what was saved.
use Rattle.std.proofs.Common.{◌≡◌, Bool, true, false, refl}
use Rattle.cr_grammar.specs.declared.symbols.NonTerm.{NonTerm}
use Rattle.cr_grammar.specs.declared.symbols.NonTerm.TheVariants as n
use Rattle.cr_ll.specs.Derivation.{Trees, none, token, action, node}
use Rattle.cr_decl.specs.Specifiers.{is_permitted}
use Rattle.cr_binding.specs.State.{State}
use Rattle.cr_binding.specs.Binding.{ended, is_empty}
use Rattle.cr_known.specs.Known.{unclosed, saved_for, ended_by}

pub ends_by_saved : (above m : NonTerm) (children : Trees) (before s : State) → unclosed (ended above m children before s) ≡ ended_by above m (is_empty children) (saved_for m before) before.values (unclosed s)
ends_by_saved above n.AssMore none before s = refl
ends_by_saved above n.AssMore (token i next) before s = refl
ends_by_saved above n.AssMore (action x next) before s = refl
ends_by_saved above n.AssMore (node m asks children next) before s = refl
ends_by_saved above n.SpecsB none before s = by (is_permitted s.pending.specifiers.basic) refl
  where
    by : (b : Bool) → is_permitted s.pending.specifiers.basic ≡ b → unclosed (ended above n.SpecsB none before s) ≡ ended_by above n.SpecsB true (saved_for n.SpecsB before) before.values (unclosed s)
    by true e = rw e refl
    by false e = rw e refl
ends_by_saved above n.SpecsB (token i next) before s = refl
ends_by_saved above n.SpecsB (action x next) before s = refl
ends_by_saved above n.SpecsB (node m asks children next) before s = refl
ends_by_saved above _ children before s = refl
