use Rattle.cr_binding.proofs.Renaming.{keeps_meaning, keeps_declaration, keeps_taken_linkage, keeps_unseen_tag}
use Rattle.cr_binding.proofs.Tagging.{keeps_tag_here}
use Rattle.cr_binding.proofs.renaming_keeps_what_is_read.Goals as goal

pub returns-clause-meaning : goal.returns-clause-meaning
returns-clause-meaning c = keeps_meaning c.renaming_keeps_lookup.ensures.denotes

pub returns-clause-declaration : goal.returns-clause-declaration
returns-clause-declaration c = keeps_declaration

pub returns-clause-linkage : goal.returns-clause-linkage
returns-clause-linkage c = keeps_taken_linkage c.renaming_keeps_linkage.ensures

pub returns-clause-tag : goal.returns-clause-tag
returns-clause-tag c = keeps_unseen_tag c.renaming_keeps_a_new_tag.ensures

pub returns-clause-tag_here : goal.returns-clause-tag_here
returns-clause-tag_here c = keeps_tag_here
