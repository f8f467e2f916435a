-- That tokens are read as binding says.
use Rattle.std.proofs.Common.{◌≡◌, ℕ, Option, List, sym, ap, subst, ◌∙◌}
use Rattle.std.specs.Prelude.{bytes_eq, IfSome}
use Rattle.std.specs.Map.{lookup}
use Rattle.cr_base.specs.declared.cause.IllCause.TheVariants as cause
use Rattle.cr_grammar.specs.declared.symbols.NonTerm.{NonTerm}
use Rattle.cr_decl.specs.declared.SpecWord.{SpecWord}
use Rattle.cr_types.specs.Types.{Table, IsTypeNo, IsRecNo}
use Rattle.cr_binding.specs.Source.{Source}
use Rattle.cr_binding.specs.State.{State}
use Rattle.cr_binding.specs.Specifying.{specifier_words, specifier_at, specified, announced, read_in}
use Rattle.cr_binding.specs.Actions.{passed}
use Rattle.cr_records.specs.Records.{with_records}
use Rattle.cr_names.specs.Names.{with_names, Refuses}
use Rattle.cr_names.specs.declared.fault.BindFault.{BindFault}
use Rattle.cr_bound.specs.declared.words.Reading.{Reading}
use Rattle.cr_bound.specs.declared.words.Reading.TheVariants as reading
use Rattle.cr_bound.proofs.Lenses.{refuses_on}
use Rattle.cr_bound.specs.declared.pending.Pending.{Pending}
use Rattle.cr_bound.specs.declared.place.Place.{Place}
use Rattle.cr_bound.specs.declared.bound.Bound.{Bound}
use Rattle.cr_bound.specs.Words.{read_by}
use Rattle.cr_bound.specs.Pending.{IsRefused}
use Rattle.cr_bound.specs.Kept.{with_pending, with_place, with_bound}
use Rattle.cr_bound.specs.Bound.{IsText, DoesAny, FailsAny, StaysTyped}

module _ (b : Bound) (i : ℕ) (text : List ℕ) (w : Option SpecWord) (is : w ≡ lookup (bytes_eq text) specifier_words) where
  the_word : (source : Source) → IsText i text source → specifier_at source i ≡ w
  the_word source e = ap (λ z. lookup (bytes_eq z) specifier_words) e ∙ sym is

  module _ (p : Pending) where
    pub specifier_read : ((t : Table) (s : State) → with_pending t p s ≡ specified w i (with_pending t b.pending s))
        → DoesAny (IsText i text) b (λ t. read_by reading.Specifier t i) (record b { pending = p })
    specifier_read h t typed = record {
      state = λ source s e sound spelled.
          h t (with_names t b.names (with_records t b.records (with_place b.place s)))
          ∙ ap (λ x. specified x i (with_bound t b s)) (sym (the_word source e));
      spelled = λ source e h. h;
    }

    pub specifier_typed : p.base ≡ b.pending.base → StaysTyped b (record b { pending = p })
    specifier_typed e t h = record { names = h.names; records = h.records; base = subst (λ o. IfSome o (IsTypeNo t)) (sym e) h.base; filled = h.filled; basics = h.basics }

  pub specifier_refused : (f : BindFault) → IsRefused w i b.pending f → Refuses f (FailsAny (IsText i text) b (λ t. read_by reading.Specifier t i))
  specifier_refused f h = subst (λ z. Refuses z (FailsAny (IsText i text) b (λ t. read_by reading.Specifier t i))) (sym h.0) fails
    where
      fails : FailsAny (IsText i text) b (λ t. read_by reading.Specifier t i) cause.BadSpecifiers i
      fails t typed source s e sound spelled =
          ap (λ x. (specified x i (with_bound t b s)).fault) (the_word source e)
          ∙ ap (λ z. z.fault) (h.1 t (with_names t b.names (with_records t b.records (with_place b.place s))))

  module _ (q : Place) where
    pub keyword_read : ((s : State) → with_place q s ≡ announced w (with_place b.place s))
        → DoesAny (IsText i text) b (λ t. read_by reading.Keyword t i) (record b { place = q })
    keyword_read h t typed = record {
      state = λ source s e sound spelled.
          h (with_names t b.names (with_records t b.records (with_pending t b.pending s)))
          ∙ ap (λ x. announced x (with_bound t b s)) (sym (the_word source e));
      spelled = λ source e h. h;
    }

    pub keyword_typed : q.filled ≡ b.place.filled → StaysTyped b (record b { place = q })
    keyword_typed e t h = record { names = h.names; records = h.records; base = h.base; filled = subst (λ o. IfSome o (IsRecNo t)) (sym e) h.filled; basics = h.basics }

-- ---- a token of a node

module _ (b : Bound) (node : NonTerm) (i : ℕ) (text : List ℕ) (r : Reading) (is : (t : Source) (k : ℕ) (s : State) → read_in node t k s ≡ read_by r t k s) where
  pub passed_as : (c : Bound) → DoesAny (IsText i text) b (λ t. read_by r t i) c → DoesAny (IsText i text) b (λ t. passed t node i) (record c { place = record c.place { last = i } })
  passed_as c d t typed = record {
    state = λ source s e sound spelled.
        ap {A = State} {B = State} (λ z. record z { last = i }) ((d t typed).state source s e sound spelled ∙ sym (is source i (with_bound t b s)));
    spelled = (d t typed).spelled;
  }

  pub pass_fails : (f : BindFault) → Refuses f (FailsAny (IsText i text) b (λ t. read_by r t i)) → Refuses f (FailsAny (IsText i text) b (λ t. passed t node i))
  pass_fails f = refuses_on f (FailsAny (IsText i text) b (λ t. read_by r t i)) (FailsAny (IsText i text) b (λ t. passed t node i))
      (λ c k h t typed source s e sound spelled. ap (λ z. z.fault) (is source i (with_bound t b s)) ∙ h t typed source s e sound spelled)
