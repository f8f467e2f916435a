use Rattle.std.proofs.Common.{sym, ap}
use Rattle.cr_snapshot.specs.BuiltIns as spec
use Rattle.cr_snapshot.proofs.header.Header.text.Goals as goal

pub returns-in-Stddef : goal.returns-in-Stddef
unfolding spec.text_of
returns-in-Stddef c = sym (ap spec.text_of c.in-Stddef.is)

pub returns-in-Stdint : goal.returns-in-Stdint
unfolding spec.text_of
returns-in-Stdint c = sym (ap spec.text_of c.in-Stdint.is)

pub returns-in-Stdbool : goal.returns-in-Stdbool
unfolding spec.text_of
returns-in-Stdbool c = sym (ap spec.text_of c.in-Stdbool.is)

pub returns-in-Stdarg : goal.returns-in-Stdarg
unfolding spec.text_of
returns-in-Stdarg c = sym (ap spec.text_of c.in-Stdarg.is)

pub returns-in-Limits : goal.returns-in-Limits
unfolding spec.text_of
returns-in-Limits c = sym (ap spec.text_of c.in-Limits.is)

pub returns-in-Errno : goal.returns-in-Errno
unfolding spec.text_of
returns-in-Errno c = sym (ap spec.text_of c.in-Errno.is)

pub returns-in-String : goal.returns-in-String
unfolding spec.text_of
returns-in-String c = sym (ap spec.text_of c.in-String.is)

pub returns-in-Stdlib : goal.returns-in-Stdlib
unfolding spec.text_of
returns-in-Stdlib c = sym (ap spec.text_of c.in-Stdlib.is)

pub returns-in-Stdio : goal.returns-in-Stdio
unfolding spec.text_of
returns-in-Stdio c = sym (ap spec.text_of c.in-Stdio.is)

pub returns-in-Assert : goal.returns-in-Assert
unfolding spec.text_of
returns-in-Assert c = sym (ap spec.text_of c.in-Assert.is)
