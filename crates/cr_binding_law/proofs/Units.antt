-- A renamed unit means the same.
use Rattle.std.specs.Prelude.{◌≡◌, ℕ, ◌≤◌, false, List, [], ◌∷◌, length, Contains}
use Rattle.std.proofs.Common.{sym, ◌∙◌, ap, subst, arith}
use Rattle.cr_ll.specs.Laws.{unit}
use Rattle.cr_scope.specs.declared.Space.TheVariants as space
use Rattle.cr_scope.specs.Linkage.{is_file_scope}
use Rattle.cr_binding.specs.Source.{Source}
use Rattle.cr_binding.specs.State.{Declaration, State}
use Rattle.cr_binding.specs.Binding.{bound}
use Rattle.cr_binding.specs.BindingStays.{BindingStays}
use Rattle.cr_binding.specs.SoundUnits.{ActionsAreDone}
use Rattle.cr_binding.specs.Resolution.{resolution}
use Rattle.cr_binding.specs.WellFormed.{AreAnswered}
use Rattle.cr_binding_law.specs.ConsistentUnits.{IsConsistent, LabelsAreInFunctions}
use Rattle.cr_binding_law.specs.UnitStays.{RenamingKeepsUnits}
use Rattle.cr_binding_law.proofs.Answering.{answers_alike}
use Rattle.cr_binding_law.proofs.AsksUsed.{asks_are_used}
use Rattle.cr_binding_law.proofs.Balanced.{labels_stand_in_functions}
use Rattle.cr_binding_law.proofs.Consistent.{units_are_consistent}
use Rattle.cr_binding_law.specs.RenamingKeys.{KeysAreEntities, KeysAreFree, RenamingOfKeysKeepsUnits}
use Rattle.cr_binding_law.proofs.Parsing.{renamed_derives}
use Rattle.cr_binding_law.proofs.Renamed.{Laws}
use Rattle.cr_binding_law.proofs.Resolving.{resolution_alike}
use Rattle.cr_binding_law.proofs.Walking.{renamed_bound}

just_one : (p : List ℕ) → is_file_scope p ≡ false → length p ≤ 1 → length p ≡ 1
just_one [] h w = cc
just_one (x ∷ p) h w = omega (arith, w)

label_lengths : (t : Source) (s : State) → IsConsistent t s → LabelsAreInFunctions s → (d : Declaration) → Contains s.declarations d → d.space ≡ space.Label → length d.path ≡ 1
label_lengths t s c labels d there h = just_one d.path (labels d there h) (c.labels d there h)

pub renaming_keeps_units : Laws → BindingStays → ActionsAreDone → RenamingKeepsUnits
renaming_keeps_units law stays done class old new t u tree ren well ents free =
    record {
      well_formed = record {
        spans = well.spans;
        derives = renamed_derives class old new t u ren tree unit well.spans well.derives;
        answered = subst (λ s. AreAnswered u s) (sym same) (answers_alike law class old new t u ren (bound t tree) ents free c.accepted (asks_are_used t tree well) well.answered);
        sound = ap (λ (s : State). s.fault) same ∙ well.sound;
      };
      binding = same;
      resolution = ap (resolution u) same ∙ resolution_alike law class old new t u ren (bound t tree) ents free c.typedefs;
    }
  where
    c : IsConsistent t (bound t tree)
    c = units_are_consistent t tree

    same : bound u tree ≡ bound t tree
    same =
        renamed_bound law stays done class old new t u tree ren well.sound ents free c.members (label_lengths t (bound t tree) c (labels_stand_in_functions t tree well))

pub renaming_of_keys_keeps_units : RenamingKeepsUnits → KeysAreEntities → KeysAreFree → RenamingOfKeysKeepsUnits
renaming_of_keys_keeps_units keeps entities free keys class old new unit_number t u tree ren well of none =
    keeps class old new t u tree ren well (entities keys class unit_number t tree of) (free keys class old new unit_number t tree of ren.spelled none)
