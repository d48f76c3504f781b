-- What holds of a task that was taken, if there is one.
use Rattle.scan_core.specs.Answers.{IfTask}
use Rattle.scan_core.specs.Boards.{TaskState}
use Rattle.scan_core.specs.declared.answers.Take.{Take}
use Rattle.scan_core.specs.declared.answers.Take.TheVariants.{Task, Idle, Ended}

-- it follows from what else holds of the task
pub if_task_so : {P Q : TaskState → Type 0} (taken : Take) → ((task : TaskState) → P task → Q task) → IfTask taken P → IfTask taken Q
if_task_so (Task task) so holds = so task holds
if_task_so Idle so holds = holds
if_task_so Ended so holds = holds

-- it follows from two things that hold of the task
pub if_task_both : {P Q R : TaskState → Type 0} (taken : Take) → ((task : TaskState) → P task → Q task → R task) → IfTask taken P → IfTask taken Q → IfTask taken R
if_task_both (Task task) so one other = so task one other
if_task_both Idle so one other = one
if_task_both Ended so one other = one
