-- `text::field::class_of` meets its contract: each arm of the match is one case of `class_of`. What no single byte's arm takes is a digit or something else
-- by two tests.
use borrow.Author.Tests.{le-ltb, lt-ltb, le-leb, lt-leb, ne_eqb}
use Rattle.text.proofs.field.class_of.Goals as goal

pub returns-in-45 : goal.returns-in-45
returns-in-45 c = rw c.in-45.is

pub returns-in-9 : goal.returns-in-9
returns-in-9 c = rw c.in-9.is

pub returns-in-10 : goal.returns-in-10
returns-in-10 c = rw c.in-10.is

pub returns-in-48-to-57 : goal.returns-in-48-to-57
returns-in-48-to-57 c = rw (le-leb 48 c.args.byte c.in-48-to-57.if-byte-lt48-own.false, lt-ltb c.args.byte 58 c.in-48-to-57.if-byte-lt58-own.true)

pub returns-in_default : goal.returns-in_default
returns-in_default c = rw (lt-leb 48 c.args.byte c.in_default.if-byte-lt48-own.true, ne_eqb c.args.byte 45 c.in_default.in_default-own.rest.0.0.1, ne_eqb c.args.byte 9 c.in_default.in_default-own.rest.0.1, ne_eqb c.args.byte 10 c.in_default.in_default-own.rest.1)

pub returns-in_default-2 : goal.returns-in_default-2
returns-in_default-2 c = rw (le-leb 48 c.args.byte c.in_default.if-byte-lt48-own.false, le-ltb c.args.byte 58 c.in_default.if-byte-lt58-own.false, ne_eqb c.args.byte 45 c.in_default.in_default-own.rest.0.0.1, ne_eqb c.args.byte 9 c.in_default.in_default-own.rest.0.1, ne_eqb c.args.byte 10 c.in_default.in_default-own.rest.1)
