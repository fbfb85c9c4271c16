-- `exported::bolikwaru_plan` meets its contract: its record is what the planner's answer tells. The check finds this by itself; it stands so that
-- the edit `plan_cycle_for_another` is refused at the cycle, and accepted where the record is rebuilt as it was.
use Rattle.exported.proofs.bolikwaru_plan.Goals as goal

pub returns : goal.returns
returns c = rw c.from.ensures c.plan.ensures
