-- `corners::list_corners` calls itself with the borders but the last: the measure is the number of borders that remain.
-- No border: one corner of flow 0. Else the corners of the shorter list, and after them the same with the last border used (`list_more`).
use lib.ListN.{length}
use Rattle.corners.proofs.+list_corners.Given as goal

abbrev pub decreases-list_corners : goal.decreases-list_corners
decreases-list_corners l = length l.borders.now
