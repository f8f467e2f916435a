use Rattle.std.proofs.Common.{◌≡◌, ◌<◌, ◌&&◌, not, List, ℕ, Some, length, refl, sym, ap, ◌∙◌, subst}
use Rattle.std.specs.Prelude.{is_some}
use Rattle.std.specs.Option.{option_map}
use Rattle.cr_lex.specs.Lexing.{lexed}
use Rattle.cr_small.specs.Renaming.{has_text}
use Rattle.cr_small.specs.Seen.{key_of_code}
use Rattle.cr_facts.specs.FactOrder.{Facts}
use Rattle.cr_small_facts.specs.TextFacts.{text_facts}
use Rattle.cr_run.specs.Survey.{places_in_text, unspellable_in_text}
use Rattle.cr_run.specs.Held.{key_at, key_in_file}
use Rattle.cr_run.specs.Table.{TellsPlaces, TellsNone}
use Rattle.cr_run.proofs.Findings.{told, told_none, spelled}
use Rattle.cr_run.proofs.Meanings.{rise_there, rise_kept}
use Rattle.cr_run.proofs.survey.Finding.of.Goals as goal

pub returns-clause-found : goal.returns-clause-found
returns-clause-found c meaning wanted path means new key there =
    let bytes = c.args.bytes.now in
    let old = c.args.sought.now.old.now in
    let tokens = (lexed bytes).tokens in
    let denotes = c.args.text.now.denotes in
    let number = c.args.number in
    let sought = option_map key_of_code c.args.sought.now.key in
    let keys : key_at wanted path wanted.key ≡ key_in_file number sought = there ∙ ap (key_in_file number) key in
    let stands : places_in_text (key_at wanted path wanted.key) tokens (meaning (lexed bytes)) ≡ places_in_text (key_in_file number sought) tokens (Some denotes) =
    ap (places_in_text (key_at wanted path wanted.key) tokens) means ∙ ap (λ k. places_in_text k tokens (Some denotes)) keys in
    let facts : c.in_ok-facts_of.field-0 ≡ text_facts number old tokens denotes = c.in_ok-facts_of.ensures ∙ ap (λ ts. text_facts number old ts denotes) c.requires.text.tokens in
    let all = told bytes old denotes number c.a_text_tells_the_places.ensures c.a_text_tells_its_own_places.ensures c.requires.text.small sought c.requires.named in (
      record {
        clear = ap not (c.has_text-2.ensures ∙ ap (has_text c.args.sought.now.new.now) c.requires.text.tokens ∙ ap (λ n. has_text n tokens) (sym new)) ∙ ap (λ o. is_some o && not (has_text wanted.new tokens)) (sym means);
        unspellable =
            c.unspellable_in.ensures
            ∙ ap (λ ts. unspellable_in_text bytes c.args.sought.now.new.now (option_map key_of_code c.key_in_file-key.result) ts (Some denotes)) c.requires.text.tokens
            ∙ ap (λ k. unspellable_in_text bytes c.args.sought.now.new.now k tokens (Some denotes)) (c.key_in_file-key.ensures ∙ sym keys)
            ∙ ap (λ n. unspellable_in_text bytes n (key_at wanted path wanted.key) tokens (Some denotes)) (sym new)
            ∙ ap (unspellable_in_text bytes wanted.new (key_at wanted path wanted.key) tokens) (sym means);
        bytes = λ some.
            let spelt = spelled c.entities_have_one_name.ensures bytes old denotes c.requires.text.small (key_in_file number sought) c.requires.named (subst (λ ps. 0 < length ps) stands some) in
            ap (λ (xs : List ℕ). Some xs) (sym (c.of.ensures ∙ c.in_ok-kept.ensures (c.has_text.ensures ∙ ap (has_text old) c.requires.text.tokens ∙ spelt)));
      },
      record {
        numbered = refl;
        places = places_in_text (key_in_file number sought) tokens (Some denotes);
        told = subst (TellsPlaces c.in_ok-facts_of.field-0 number (places_in_text (key_in_file number sought) tokens (Some denotes))) (sym key)
            (subst (λ (z : Facts). TellsPlaces z number (places_in_text (key_in_file number sought) tokens (Some denotes)) sought) (sym facts) all);
        holds = sym stands;
        own = λ n apart. subst (TellsNone c.in_ok-facts_of.field-0 n) (sym key) (subst (λ (z : Facts). TellsNone z n sought) (sym facts) (told_none bytes old denotes number c.a_text_tells_its_own_places.ensures sought n apart));
      },
    )

pub returns-clause-placed : goal.returns-clause-placed
returns-clause-placed c path =
    let bytes = c.args.bytes.now in
    let old = c.args.sought.now.old.now in
    let tokens = (lexed bytes).tokens in
    let denotes = c.args.text.now.denotes in
    let number = c.args.number in
    let sought = option_map key_of_code c.args.sought.now.key in
    let places = places_in_text (key_in_file number sought) tokens (Some denotes) in
    let facts : c.in_ok-facts_of.field-0 ≡ text_facts number old tokens denotes = c.in_ok-facts_of.ensures ∙ ap (λ ts. text_facts number old ts denotes) c.requires.text.tokens in
    let all = told bytes old denotes number c.a_text_tells_the_places.ensures c.a_text_tells_its_own_places.ensures c.requires.text.small sought c.requires.named in
    let rise = rise_there c.places_rise.ensures bytes old (key_in_file number sought) denotes c.requires.text.small c.requires.named in
    record {
      numbered = refl;
      places = places;
      told = subst (λ (z : Facts). TellsPlaces z number places sought) (sym facts) all;
      holds = rise_kept places bytes c.of.result (length old)
          (λ some. c.of.ensures ∙ c.in_ok-kept.ensures (c.has_text.ensures ∙ ap (has_text old) c.requires.text.tokens ∙ spelled c.entities_have_one_name.ensures bytes old denotes c.requires.text.small (key_in_file number sought) c.requires.named some)) rise;
      own = λ n apart. subst (λ (z : Facts). TellsNone z n sought) (sym facts) (told_none bytes old denotes number c.a_text_tells_its_own_places.ensures sought n apart);
    }
