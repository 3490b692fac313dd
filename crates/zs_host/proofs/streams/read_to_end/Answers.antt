use Rattle.std.proofs.Common.{◌<◌, ◌≤◌, length, take, arith}
use Rattle.zs_host.proofs.StreamLemmas.{consumes_more, consumes_all, consumes_many}
use Rattle.zs_host.proofs.streams.read_to_end.Goals as goal

pub returns-then-count-eq0 : goal.returns-then-count-eq0
returns-then-count-eq0 g c =
    let some : 0 < length c.read.new.buf = omega arith in (
      consumes_all (g.F.Read.remaining c.args.file.now) (g.F.Read.remaining c.loop.file) (g.F.Read.remaining c.read.new.self) c.loop.out.items c.read.new.buf c.in-Ok.count c.loop.invariant.taken c.in-Ok.ensures.bytes.0 c.if-count-eq0.true
          (c.in-Ok.ensures.bytes.1 c.if-count-eq0.true some),
      c.loop.invariant.within,
    )

pub slice_bounds-buffer-end : goal.slice_bounds-buffer-end
slice_bounds-buffer-end g c = c.in-Ok.ensures.bound.0

pub returns-then-len-limit : goal.returns-then-len-limit
returns-then-len-limit g c =
    let long : c.args.limit < length c.extend_from_slice.new.self.items = omega arith in
    consumes_many (g.F.Read.remaining c.args.file.now) (g.F.Read.remaining c.read.new.self) c.extend_from_slice.new.self.items c.args.limit
    (consumes_more (g.F.Read.remaining c.args.file.now) (g.F.Read.remaining c.loop.file) (g.F.Read.remaining c.read.new.self) c.loop.out.items (take c.in-Ok.count c.read.new.buf) c.extend_from_slice.new.self.items c.loop.invariant.taken c.in-Ok.ensures.bytes.0 c.in_ok-extend_from_slice.ensures.items)
    long

pub loop-preserved : goal.loop-preserved
loop-preserved g c =
    let fits : length c.extend_from_slice.new.self.items ≤ c.args.limit = omega arith in
    record {
      within = fits;
      taken =
          consumes_more (g.F.Read.remaining c.args.file.now) (g.F.Read.remaining c.loop.file) (g.F.Read.remaining c.read.new.self) c.loop.out.items (take c.in-Ok.count c.read.new.buf) c.extend_from_slice.new.self.items c.loop.invariant.taken c.in-Ok.ensures.bytes.0 c.in_ok-extend_from_slice.ensures.items;
    }
