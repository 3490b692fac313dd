use Rattle.std.proofs.Common.{◌≡◌, ◌++◌, ◌∷◌, [], List, ℕ, cond, is_ok, map, ap, ◌∙◌}
use Rattle.std.specs.FinMap.{keys}
use Rattle.std.specs.Map.Iter.{deref}
use Rattle.std.proofs.lemmas.Map.Iter.{rest_all, rest_more}
use Rattle.flash_map.specs.On.{on}
use Rattle.mirror.specs.Room.{prices_on}
use Rattle.mirror.proofs.Walks.{names-listed, class-step, class-end}
use Rattle.mirror.proofs.walking.classes.Goals as goal

pub loop-name-init : goal.loop-name-init
loop-name-init g c =
    let d = g.F.Flash.device c.args.flash.now in
    let class = (prices_on g.K.Priced.prices d c.args.area.now).class in
    let listed : c.into_iter-name-iterator.result ≡ keys (on g.K.Backend.contents d (g.K.Backend.mounted_on c.args.store.now)) =
    c.into_iter-name-iterator.ensures.into_iter_gives ∙ c.keys-name-items.ensures.rest ∙ names-listed c.in_ok-settings.settings.entries ∙ ap (map (λ (e : List ℕ × List ℕ). e.0)) c.in_ok-settings.ensures in
    ap (λ l. l ++ map class c.into_iter-name-iterator.result) c.new-found.ensures.items ∙ ap (map class) listed

pub loop-name-preserved : goal.loop-name-preserved
loop-name-preserved g c =
    let d = g.F.Flash.device c.args.flash.now in
    let class = (prices_on g.K.Priced.prices d c.args.area.now).class in
    let pushed : c.push.new.self.items ≡ c.loop-name.found.items ++ c.class.result ∷ [] =
    c.push.ensures.items ∙ ap (λ r. cond (is_ok r) (c.loop-name.found.items ++ c.class.result ∷ []) c.loop-name.found.items) c.in-Ok.is in
    class-step class (keys (on g.K.Backend.contents d (g.K.Backend.mounted_on c.args.store.now))) c.loop-name.name-iterator c.next.new.self c.in-Some.name.now c.loop-name.found.items c.push.new.self.items c.class.result
    (rest_more deref c.loop-name.name-iterator c.next.new.self c.next.result c.in-Some.name c.in-Some.is c.next.ensures.steps) c.class.ensures pushed c.loop-name.invariant

pub returns : goal.returns
returns g c =
    let d = g.F.Flash.device c.args.flash.now in
    let class = (prices_on g.K.Priced.prices d c.args.area.now).class in
    class-end class (keys (on g.K.Backend.contents d (g.K.Backend.mounted_on c.args.store.now))) c.loop-name.name-iterator c.loop-name.found.items
    (rest_all deref c.loop-name.name-iterator c.next.new.self c.next.result c.in-None.is c.next.ensures.steps) c.loop-name.invariant
