use Rattle.std.proofs.Common.{◌≤◌, ap, arith}
use Rattle.std.specs.Prelude.{option_map}
use Rattle.flash_sim.specs.Device.{Device}
use Rattle.flash_map.specs.Area.{sectors_of, geometry_of}
use Rattle.flash_map.specs.On.{on}
use Rattle.mirror.proofs.ReadLemmas.{bytes-short}
use Rattle.mirror.proofs.walking.value_length.Goals as goal

pub overflow_cast-result : goal.overflow_cast-result
overflow_cast-result g c =
    let d : Device = g.F.Flash.device c.args.flash.now in
    let area = g.K.Backend.mounted_on c.args.store.now in
    let lawful = g.met.K.Backend.reads_settings d area (g.met.F.Flash.is_lawful c.args.flash.now) c.requires.lawful
    (g.met.K.Backend.stands_serves c.args.store.now (geometry_of d area) (sectors_of d area) c.requires.stands) (g.met.K.Backend.stands_reads c.args.store.now (geometry_of d area) (sectors_of d area) c.requires.stands) in
    let short = bytes-short area (on g.K.Backend.contents d area) c.args.name.now c.in-Some.bytes.now (option_map (λ bytes. bytes.now) c.get.result) lawful c.get.ensures (ap (option_map (λ bytes. bytes.now)) c.in-Some.is) in
    omega arith

pub returns-in-Some-clause-short : goal.returns-in-Some-clause-short
returns-in-Some-clause-short g c =
    let d : Device = g.F.Flash.device c.args.flash.now in
    let area = g.K.Backend.mounted_on c.args.store.now in
    let lawful = g.met.K.Backend.reads_settings d area (g.met.F.Flash.is_lawful c.args.flash.now) c.requires.lawful
    (g.met.K.Backend.stands_serves c.args.store.now (geometry_of d area) (sectors_of d area) c.requires.stands) (g.met.K.Backend.stands_reads c.args.store.now (geometry_of d area) (sectors_of d area) c.requires.stands) in
    bytes-short area (on g.K.Backend.contents d area) c.args.name.now c.in-Some.bytes.now (option_map (λ bytes. bytes.now) c.get.result) lawful c.get.ensures (ap (option_map (λ bytes. bytes.now)) c.in-Some.is)
