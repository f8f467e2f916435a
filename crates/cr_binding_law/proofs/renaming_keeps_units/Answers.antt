use Rattle.cr_binding_law.proofs.Units.{renaming_keeps_units}
use Rattle.cr_binding_law.proofs.renaming_keeps_units.Goals as goal

pub returns : goal.returns
returns c =
    renaming_keeps_units
    (record {
      means = c.lookup_means.ensures;
      meaning = c.renaming_keeps_what_is_read.ensures.meaning;
      declaration = c.renaming_keeps_what_is_read.ensures.declaration;
      linkage = c.renaming_keeps_what_is_read.ensures.linkage;
      tag = c.renaming_keeps_what_is_read.ensures.tag;
      tag_here = c.renaming_keeps_what_is_read.ensures.tag_here;
      denoted = c.renaming_keeps_what_is_asked.ensures.denoted;
      denied = c.renaming_keeps_what_is_asked.ensures.denied;
      selection = c.renaming_keeps_members.ensures.selection;
      members = c.renaming_keeps_members.ensures.members;
      mentions = c.free_units_have_free_mentions.ensures.mentions;
      tags = c.free_units_have_free_mentions.ensures.tags;
      asks = c.free_units_have_free_mentions.ensures.asks;
      declarations = c.free_units_have_free_mentions.ensures.declarations;
      all = c.free_units_have_free_mentions.ensures.all;
    })
    c.binding_stays.ensures c.actions_are_done.ensures
