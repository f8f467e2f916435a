-- What the end of a node does.
use Rattle.std.proofs.Common.{◌≡◌, Bool, ap, ◌∙◌}
use Rattle.cr_grammar.specs.declared.symbols.NonTerm.{NonTerm}
use Rattle.cr_binding.specs.Binding.{leaves_values}
use Rattle.cr_known.specs.Known.{put_back, ended_alone}
use Rattle.cr_operands.specs.Laws.{GrowthsFollow}
use Rattle.cr_operands.specs.Operands.{values_at}
use Rattle.cr_acting.specs.declared.binding.Binding.{Binding}
use Rattle.cr_acting.specs.declared.ends.Kept.{Kept}
use Rattle.cr_acting.specs.Binding.{state_of, Leads}
use Rattle.cr_acting.specs.Ends.{kept_by, values_by, IsKept, KeptStays, AllKeptStays, ending_alone, putting_back, leaving, ending}

module _ (stays : AllKeptStays) (follow : GrowthsFollow) (node : NonTerm) (childless : Bool) (a b : Binding) (k : Kept) (kept : IsKept a.types a.operands k) (x : Leads a (ending_alone node childless) b) where
  -- what is kept is the same behind what ends by itself,
  pub kept_first : KeptStays a.types a.operands k b.types b.operands
  kept_first = stays a.types b.types a.operands b.operands k x.grows kept

  module _ (c : Binding) (y : Leads b (putting_back (kept_by b.types k.saving)) c) where
    -- and behind what is put back.
    pub kept_second : KeptStays b.types b.operands k c.types c.operands
    kept_second = stays b.types c.types b.operands c.operands k y.grows kept_first.kept

    pub ended : (d : Binding) (above : NonTerm) (l : Bool) → l ≡ leaves_values above node → Leads c (leaving l (values_at c.types c.operands k.mark)) d
        → Leads a (ending above node childless (kept_by a.types k.saving) (values_by a.types a.operands k)) d
    ended d above l is z = record {
      state = λ source h.
          z.state source (y.spelled source (x.spelled source h))
          ∙ ap (λ s. leaving l (values_at c.types c.operands k.mark) source s) (y.state source (x.spelled source h) ∙ ap (put_back (kept_by b.types k.saving)) (x.state source h))
          ∙ ap (λ v. leaving l v source (put_back (kept_by b.types k.saving) (ended_alone node childless (state_of a)))) (kept_second.values ∙ kept_first.values)
          ∙ ap (λ v. leaving l (values_by a.types a.operands k) source (put_back v (ended_alone node childless (state_of a)))) kept_first.saved
          ∙ ap (λ v. leaving v (values_by a.types a.operands k) source (put_back (kept_by a.types k.saving) (ended_alone node childless (state_of a)))) is;
      spelled = λ source h. z.spelled source (y.spelled source (x.spelled source h));
      whole = z.whole;
      grows = follow a.types c.types d.types a.operands c.operands d.operands (follow a.types b.types c.types a.operands b.operands c.operands x.grows y.grows) z.grows;
    }
