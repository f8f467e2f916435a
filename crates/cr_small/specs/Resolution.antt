-- What each token of a text denotes: one walk over the tokens that meets declarations and mentions in order.
use Rattle.std.specs.Prelude.{ℕ, ◌+◌, Bool, true, false, ◌&&◌, List, [], ◌∷◌, ◌++◌, Option, Some, None, if◌then◌else◌}
use Rattle.std.specs.Option.{option_map, option_and_then}
use Rattle.std.specs.List.{zip}
use Rattle.cr_lex.specs.Lexing.{Token}
use Rattle.cr_small.specs.Tree.{External, parts}
use Rattle.cr_small.specs.Declarations.{Entry, lookup, is_internal, is_seen_internal, entity_of, is_redeclared}
use Rattle.cr_small.specs.declared.grammar.Storage.{Storage}
use Rattle.cr_small.specs.declared.grammar.Part.{Part}
use Rattle.cr_small.specs.declared.grammar.Part.TheVariants as part
use Rattle.cr_small.specs.declared.binder.Denotation.{Denotation}

-- the declarations so far, the present scope, and the number of the next scope
pub record Bindings : Type 0 where
  pub entries : List Entry
  pub path : List ℕ
  pub next : ℕ

-- what one token leaves, and the entity that it denotes
pub record Bound : Type 0 where
  pub after : Bindings
  pub denotes : Option Denotation

abbrev pub file_scope : Bindings
file_scope = record { entries = []; path = []; next = 0 }

abbrev pub is_file_scope : List ℕ → Bool
is_file_scope [] = true
is_file_scope (scope ∷ around) = false

-- the scope around
abbrev pub around : List ℕ → List ℕ
around [] = []
around (scope ∷ rest) = rest

-- the entity of an entry, and whether the token declares it
abbrev pub denotation : List Entry → Entry → Bool → Denotation
denotation entries entry declares = record {
  token = entity_of entries entry;
  function = entry.function;
  linked = entry.linked;
  internal = entry.internal;
  declares = declares;
}

abbrev pub unchanged : Bindings → Option Bound
unchanged b = Some (record { after = b; denotes = None })

-- A declaration takes the present scope. It has linkage at file scope, where the visible declaration of its name has
-- one too, and none inside braces (C11 6.2.2p5, p6).
abbrev pub entry_at : Bindings → Bool → Option Storage → List ℕ → ℕ → Entry
entry_at b function word name token = record {
  path = b.path;
  name = name;
  token = token;
  function = function;
  linked = is_file_scope b.path;
  internal = is_file_scope b.path && is_internal function (is_seen_internal (lookup b.entries name b.path)) word;
}

abbrev pub declared : Bindings → Entry → Option Bound
declared b entry =
    if is_redeclared b.entries entry then None
    else Some (record {
      after = record { entries = b.entries ++ entry ∷ []; path = b.path; next = b.next };
      denotes = Some (denotation (b.entries ++ entry ∷ []) entry true);
    })

-- a mention must see a declaration before it
abbrev pub mentioned : Bindings → Option Entry → Option Bound
mentioned b None = None
mentioned b (Some entry) = Some (record { after = b; denotes = Some (denotation b.entries entry false) })

-- one token of this number and name, by what it does
abbrev pub bound : Bindings → ℕ → List ℕ → Part → Option Bound
bound b token name part.Plain = unchanged b
bound b token name part.Opens = unchanged (record { entries = b.entries; path = b.next ∷ b.path; next = b.next + 1 })
bound b token name part.Closes = unchanged (record { entries = b.entries; path = around b.path; next = b.next })
bound b token name (part.DeclaresObject word) = declared b (entry_at b false word name token)
bound b token name (part.DeclaresFunction word) = declared b (entry_at b true word name token)
bound b token name part.Mentions = mentioned b (lookup b.entries name b.path)

-- what each token from this number on denotes, or nothing where a name is undeclared or redeclared
abbrev pub resolved : ℕ → Bindings → List (Token × Part) → Option (List (Option Denotation))
resolved token b [] = Some []
resolved token b (one ∷ rest) =
    option_and_then (λ d. option_map (λ denotes. d.denotes ∷ denotes) (resolved (token + 1) d.after rest)) (bound b token one.0.text one.1)

-- what each token denotes in the text of a tree
abbrev pub resolution : List Token → List External → Option (List (Option Denotation))
resolution tokens tree = resolved 0 file_scope (zip tokens (parts tree))
