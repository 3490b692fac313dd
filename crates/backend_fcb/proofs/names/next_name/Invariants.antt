use Rattle.std.specs.Option.{option_map}
use Rattle.flash_map.specs.Area.{value_limit}
use Rattle.record_settings.proofs.SeekLemmas.{Seeks, left_behind}
use Rattle.backend_fcb.specs.Standing.{bodies_on}
use Rattle.backend_fcb.specs.Walking.{IsLast}
use Rattle.backend_fcb.proofs.names.next_name.Given as goal

abbrev pub invariant-loop-setting : goal.invariant-loop-setting
invariant-loop-setting g l = record {
  seeks : Seeks (value_limit l.ring.area) (bodies_on (g.F.Flash.device l.flash) l.ring.area) (option_map (λ name. name.now) l.after) l.setting.name.now;
  last : IsLast (value_limit l.ring.area) (bodies_on (g.F.Flash.device l.flash) l.ring.area) l.setting.name.now l.setting.value.now;
}

abbrev pub decreases-loop-setting : goal.decreases-loop-setting
decreases-loop-setting g l = left_behind (value_limit l.ring.area) l.setting.name.now (bodies_on (g.F.Flash.device l.flash) l.ring.area)
