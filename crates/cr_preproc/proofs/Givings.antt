-- What a unit has once a final token is given, or one more token or file is read.
use Rattle.std.proofs.Common.{◌≡◌, ◌<◌, ℕ, ◌+◌, ◌-◌, false, cond, List, [], ◌∷◌, ◌++◌, length, refl, ap, sym, ◌∙◌, subst, arith, append-nil, length-append}
use Rattle.std.specs.Prelude.{flat_map, nat_lt}
use Rattle.std.proofs.lemmas.Bool.Decides.{nat_tests}
use Rattle.std.proofs.lemmas.List.{map-append}
use Rattle.cr_base.specs.declared.cause.Role.TheVariants as role
use Rattle.cr_base.specs.declared.token.PpTok.{PpTok}
use Rattle.cr_macros.specs.Definition.{text_of}
use Rattle.cr_macros.specs.Tokens.{Text, Token, takes, token_of, tokens_of}
use Rattle.cr_preproc.specs.declared.progress.Progress.{Progress}
use Rattle.cr_preproc.specs.declared.progress.TheConstants.{MOST_TOKENS}
use Rattle.cr_phase4.specs.Tasks.{Event, Took, Final, State, Over, Tokens, Reading, Goes, Ends, Done, marks, gives, reads}
use Rattle.cr_preproc.specs.Seen.{IsNamed, AreNamed}
use Rattle.cr_phase4.specs.Traces.{seen_as, all_events_seen, opaque_place}
use Rattle.cr_preproc.specs.Progressing.{state_of, kept, joined, traced, IsProgress, IsSeen, IsNotOpaque, Did}
use Rattle.cr_preproc.proofs.Marked.{told}
use Rattle.cr_preproc.proofs.Progresses.{same_parts, taking_marks, taking_opaque, told_none}
use Rattle.cr_preproc.proofs.Notings.{nothing_behind, none_opaque, map_none}

named_push : (names : List Text) (ts : List PpTok) (t : PpTok) → AreNamed names ts → IsNamed names t → AreNamed names (ts ++ t ∷ [])
named_push names [] t h k = (k, tt)
named_push names (x ∷ xs) t h k = (h.0, named_push names xs t h.1 k)

one_more : (n m : ℕ) → n < m → nat_lt (m - n) 1 ≡ false
one_more n m h = grind (arith, nat_tests)

module _ (p q r : Progress) (t : PpTok) (hide : List Text) (good : IsProgress p) (named : IsNamed p.names t) (few : length p.tokens.items < MOST_TOKENS)
    (seen : IsSeen p q (seen_as (text_of p.names p.renaming.old) (text_of p.names p.renaming.new) role.Final (token_of p.names [] t)))
    (given : r.tokens.items ≡ q.tokens.items ++ t ∷ []) (rest : r ≡ record q { tokens = r.tokens }) where
  abbrev old : Text
  old = text_of p.names p.renaming.old

  abbrev new : Text
  new = text_of p.names p.renaming.new

  abbrev x : Token
  x = token_of p.names hide t

  same : r ≡ record p { trace = record p.trace { seen = q.trace.seen }; tokens = r.tokens }
  same = rest ∙ ap (λ (y : Progress). record y { tokens = r.tokens }) seen.same

  all : r.tokens.items ≡ p.tokens.items ++ t ∷ []
  all = given ∙ ap (λ (y : Progress). y.tokens.items ++ t ∷ []) seen.same

  count : length r.tokens.items ≡ length p.tokens.items + 1
  count = ap length all ∙ length-append p.tokens.items (t ∷ [])

  room : (MOST_TOKENS - length p.tokens.items) - 1 ≡ MOST_TOKENS - length r.tokens.items
  room = omega (arith, count, few)

  abbrev with_room : ℕ → State
  with_room n = record (state_of p) { room = n }

  goes : gives (x ∷ []) (state_of p) ≡ Goes Done (state_of r) (Final x ∷ [])
  goes =
      ap (λ b. cond b (Ends (Over Tokens) []) (Goes Done (with_room ((MOST_TOKENS - length p.tokens.items) - 1)) (Final x ∷ []))) (one_more (length p.tokens.items) MOST_TOKENS few)
      ∙ ap (λ n. Goes Done (with_room n) (Final x ∷ [])) room
      ∙ ap (λ (y : Progress). Goes Done (state_of y) (Final x ∷ [])) (sym same)

  seen_all : all_events_seen old new (Final x ∷ []) ≡ all_events_seen old new (marks role.Final x)
  seen_all = append-nil (seen_as old new role.Final x) ∙ sym (told old new (takes role.Final x))

  trace : kept r.trace ≡ joined (kept p.trace) (traced p (Final x ∷ []))
  trace =
      ap (λ (y : Progress). kept y.trace) same
      ∙ same_parts _ _ _ _ _ _ _ _
      (seen.seen ∙ ap (λ l. p.trace.seen.items ++ l) (sym (append-nil (seen_as old new role.Final x))))
      (sym (append-nil p.trace.new_macros.items))
      (sym (append-nil p.trace.body_params.items))
      (nothing_behind p.trace.opaque.items _
      (ap (flat_map (λ s. opaque_place s s.role)) seen_all ∙ taking_opaque IsNotOpaque (λ s. []) none_opaque old new (marks role.Final x) (taking_marks IsNotOpaque role.Final x tt) ∙ map_none (all_events_seen old new (marks role.Final x))))

  good_after : IsProgress r
  good_after = subst IsProgress (sym same) (record {
    distinct = good.distinct;
    old = good.old;
    new = good.new;
    macros = good.macros;
    macro_names = good.macro_names;
    tokens = subst (AreNamed p.names) (sym all) (named_push p.names p.tokens.items t good.tokens named);
    used = good.used;
    reading = good.reading;
    room = omega (arith, count, few);
  })

  pub given_did : Did 0 p r (gives (token_of p.names hide t ∷ [])) Done
  given_did = record {
    events = Final x ∷ [];
    size = refl;
    goes = goes;
    told = record {
      tokens = ap (λ (y : Progress). tokens_of y.names r.tokens.items) same ∙ ap (tokens_of p.names) all ∙ map-append (token_of p.names []) p.tokens.items (t ∷ []);
      trace = trace;
      renaming = ap (λ (y : Progress). y.renaming) same;
      names = ([], ap (λ (y : Progress). y.names) same ∙ sym (append-nil p.names));
    };
    good = good_after;
  }

-- one more token or file is read

module _ (p : Progress) (good : IsProgress p) (left : 0 < p.reading) where
  abbrev less : Progress
  less = record p { reading = p.reading - 1 }

  read_goes : (events : List Event) → reads 1 events (state_of p) ≡ Goes Done (state_of less) events
  read_goes events = ap (λ b. cond b (Ends (Over Reading) []) (Goes Done (state_of less) events)) (let e : nat_lt p.reading 1 ≡ false = grind (arith, nat_tests) in e)

  read_good : IsProgress less
  read_good = record {
    distinct = good.distinct;
    old = good.old;
    new = good.new;
    macros = good.macros;
    macro_names = good.macro_names;
    tokens = good.tokens;
    used = good.used;
    reading = (let l = good.reading in omega (arith, l));
    room = good.room;
  }

  -- a token is taken from a file
  pub took_did : Did 1 p less (reads 1 (Took ∷ [])) Done
  took_did = record {
    events = Took ∷ [];
    size = refl;
    goes = read_goes (Took ∷ []);
    told = let t = told_none p in record { tokens = t.tokens; trace = t.trace; renaming = t.renaming; names = t.names };
    good = read_good;
  }

  -- a file is opened
  pub read_did : Did 0 p less (reads 1 []) Done
  read_did = record {
    events = [];
    size = refl;
    goes = read_goes [];
    told = let t = told_none p in record { tokens = t.tokens; trace = t.trace; renaming = t.renaming; names = t.names };
    good = read_good;
  }
