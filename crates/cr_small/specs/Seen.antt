-- What the code holds, without where it lies in memory.
use Rattle.std.specs.Prelude.{List, map}
use Rattle.cr_lex.specs.Lexing.{Token}
use Rattle.cr_lex.specs.Seen.{seen}
use Rattle.cr_small.specs.Renaming as renaming
use Rattle.cr_small.specs.Keys as keys
use Rattle.cr_small.specs.declared.text.SmallText.{SmallText}
use Rattle.cr_small.specs.declared.renaming.EntityKey.{EntityKey}
use Rattle.cr_small.specs.declared.renaming.EntityKey.TheVariants as key
use Rattle.cr_small.specs.declared.renaming.Target.{Target}

-- the tokens of a text
abbrev pub tokens_of : SmallText → List Token
tokens_of text = map (seen text.names) text.tokens

abbrev pub key_of_code : EntityKey → keys.Key
key_of_code (key.External name) = keys.external name.now
key_of_code (key.At offset) = keys.at offset

abbrev pub target_of_code : Target → renaming.Target
target_of_code t = record { name = t.name.now; key = key_of_code t.key; at_file_scope = t.at_file_scope }
