use mathlib.Core.Path.{refl, ◌∙◌}
use native.Mathlib.Omega.{arith}
use lib.ListN.{length-set}
use Rattle.marks.specs.Marks.{every, listed}
use Rattle.hourtables.proofs.DayLaws.{day_none, day_more}
use Rattle.hoursheet.proofs.read_hours.Goals as goal

pub loop-i-init : goal.loop-i-init
loop-i-init c = record { few = omega arith; name_long = refl; text_long = refl; hours_long = refl; ways_long = refl; atcs_long = refl; day = day_none _ _ _ _ _ }

pub shape_of-name-then-k-ge-HOURS_MOST : goal.shape_of-name-then-k-ge-HOURS_MOST
shape_of-name-then-k-ge-HOURS_MOST c = c.loop-i.invariant.name_long

pub shape_of-text-then-k-ge-HOURS_MOST : goal.shape_of-text-then-k-ge-HOURS_MOST
shape_of-text-then-k-ge-HOURS_MOST c = c.loop-i.invariant.text_long

pub shape_of-hours-then-k-ge-HOURS_MOST : goal.shape_of-hours-then-k-ge-HOURS_MOST
shape_of-hours-then-k-ge-HOURS_MOST c = c.loop-i.invariant.hours_long

pub shape_of-ways-then-k-ge-HOURS_MOST : goal.shape_of-ways-then-k-ge-HOURS_MOST
shape_of-ways-then-k-ge-HOURS_MOST c = c.loop-i.invariant.ways_long

pub shape_of-atcs-then-k-ge-HOURS_MOST : goal.shape_of-atcs-then-k-ge-HOURS_MOST
shape_of-atcs-then-k-ge-HOURS_MOST c = c.loop-i.invariant.atcs_long

pub returns-then-k-ge-HOURS_MOST : goal.returns-then-k-ge-HOURS_MOST
returns-then-k-ge-HOURS_MOST c = record { upper_bound = c.loop-i.invariant.few; day = c.loop-i.invariant.day }

pub read_hour-hour-requires : goal.read_hour-hour-requires
read_hour-hour-requires c = (omega (arith, c.if-k-ge-HOURS_MOST.false), c.loop-i.invariant.ways_long ∙ c.requires.1, c.loop-i.invariant.atcs_long ∙ c.requires.2)

pub offset_bounds-hours-k : goal.offset_bounds-hours-k
offset_bounds-hours-k c = omega (arith, c.if-k-ge-HOURS_MOST.false)

pub bounds-hours-k : goal.bounds-hours-k
bounds-hours-k c = omega (arith, c.loop-i.invariant.hours_long, c.requires.0, c.if-k-ge-HOURS_MOST.false)

pub overflow_add-k : goal.overflow_add-k
overflow_add-k c = omega (arith, c.if-k-ge-HOURS_MOST.false)

pub loop-i-preserved : goal.loop-i-preserved
loop-i-preserved c = record {
  few = omega (arith, c.if-k-ge-HOURS_MOST.false);
  name_long = c.arg-n.auto.buf ∙ c.loop-i.invariant.name_long;
  text_long = c.read_hour-hour.auto.text ∙ c.loop-i.invariant.text_long;
  hours_long = simp length-set c.loop-i.invariant.hours_long;
  ways_long = c.read_hour-hour.auto.ways ∙ c.loop-i.invariant.ways_long;
  atcs_long = c.read_hour-hour.auto.atcs ∙ c.loop-i.invariant.atcs_long;
  day = day_more (every c.args.marks) (listed c.args.marks) c.loop-i.invariant.day (omega (arith, c.loop-i.invariant.hours_long, c.requires.0, c.if-k-ge-HOURS_MOST.false)) c.read_hour-hour.ensures;
}

pub shape_of-name : goal.shape_of-name
shape_of-name c = c.loop-i.invariant.name_long

pub shape_of-text : goal.shape_of-text
shape_of-text c = c.loop-i.invariant.text_long

pub shape_of-hours : goal.shape_of-hours
shape_of-hours c = c.loop-i.invariant.hours_long

pub shape_of-ways : goal.shape_of-ways
shape_of-ways c = c.loop-i.invariant.ways_long

pub shape_of-atcs : goal.shape_of-atcs
shape_of-atcs c = c.loop-i.invariant.atcs_long

pub returns : goal.returns
returns c = record { upper_bound = c.loop-i.invariant.few; day = c.loop-i.invariant.day }
