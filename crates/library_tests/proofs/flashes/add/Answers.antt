use Rattle.std.proofs.Common.{◌≡◌, All, List, [], ◌∷◌, ◌++◌, Result, Ok, Err, sym, subst}
use Rattle.std.proofs.lemmas.List.Elements.{All-push}
use Rattle.flash_sim.specs.declared.flash.Bank.{Bank}
use Rattle.flash_map.specs.declared.area.Area.{Area}
use Rattle.flash_map.specs.declared.map.AddFault.{AddFault}
use Rattle.flash_map.specs.declared.map.AddFault.TheVariants.{Exists, OutOfBank, Overlaps, NoMemory}
use Rattle.flash_map.specs.Map.{HasVersion, Adds}
use Rattle.library_tests.proofs.flashes.add.Goals as goal

keeps : (banks : List Bank) (old new : List Area) (area : Area) (result : Result (Unit {0}) AddFault) → Adds banks old new area result
    → All (HasVersion 1) old → HasVersion 1 area → All (HasVersion 1) new
keeps banks old new area (Ok _) adds all one = subst (λ (areas : List Area). All (HasVersion 1) areas) (sym adds.2) (All-push (HasVersion 1) old area all one)
keeps banks old new area (Err Exists) adds all one = subst (λ (areas : List Area). All (HasVersion 1) areas) (sym adds.1) all
keeps banks old new area (Err OutOfBank) adds all one = subst (λ (areas : List Area). All (HasVersion 1) areas) (sym adds.2) all
keeps banks old new area (Err Overlaps) adds all one = subst (λ (areas : List Area). All (HasVersion 1) areas) (sym adds.3) all
keeps banks old new area (Err NoMemory) adds all one = subst (λ (areas : List Area). All (HasVersion 1) areas) (sym adds.2) all

pub returns : goal.returns
returns c = keeps _ c.args.map.now c.add.new.self c.args.area c.add.result c.add.ensures c.requires.others c.requires.version
