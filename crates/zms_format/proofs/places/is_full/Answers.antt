use Rattle.std.proofs.Common.{◌≡◌, ℕ, List, true, false, refl, sym, ap, ◌∙◌}
use Rattle.flash_sim.specs.declared.flash.Kind.{Kind}
use Rattle.zms_cycle.specs.Areas.{kind_on}
use Rattle.flash_map.specs.declared.area.Geometry.{Geometry}
use Rattle.flash_sim.specs.Device.{Device}
use Rattle.flash_map.specs.Area.{sectors_of, sector_at}
use Rattle.zms_format.specs.declared.sector.Marks.{Marks}
use Rattle.zms_cycle.specs.Sector.{has_guard, holds_too_much}
use Rattle.zms_format.specs.Area.{marks_of}
use Rattle.zms_format.proofs.MountLemmas.{full_unused, full_passed, full_counts}
use Rattle.zms_format.proofs.places.is_full.Goals as goal

pub returns-then-not-in_use : goal.returns-then-not-in_use
returns-then-not-in_use g c =
    let d : Device = g.F.Flash.device c.args.flash.now in
    let sectors : List (List ℕ) = sectors_of d c.args.area.now in
    let marks : c.read_marks-marks.result ≡ marks_of (kind_on d c.args.area.now) (sector_at sectors c.args.place) = c.read_marks-marks.ensures ∙ ap (λ (k : Kind). marks_of k c.sector_view-bytes.result.now) (ap (λ (s : Geometry). s.kind) c.geometry-kind.ensures) ∙ ap (marks_of (kind_on d c.args.area.now)) c.sector_view-bytes.ensures.bytes in
    let begun = ap (λ (m : Marks). m.begun) marks in
    let closed = ap (λ (m : Marks). m.closed) marks in
    full_unused sectors c.args.current c.args.place c.read_marks-marks.result.begun c.read_marks-marks.result.closed c.in_use.result c.in_use.ensures begun closed c.if-not-in_use.true

pub returns-then-not-counts : goal.returns-then-not-counts
returns-then-not-counts g c =
    let d : Device = g.F.Flash.device c.args.flash.now in
    let sectors : List (List ℕ) = sectors_of d c.args.area.now in
    full_passed sectors c.args.current c.args.place (sym c.counts.ensures ∙ c.if-not-counts.true)

pub returns-then-not-has_guard : goal.returns-then-not-has_guard
returns-then-not-has_guard g c =
    let d : Device = g.F.Flash.device c.args.flash.now in
    let sectors : List (List ℕ) = sectors_of d c.args.area.now in
    let marks : c.read_marks-marks.result ≡ marks_of (kind_on d c.args.area.now) (sector_at sectors c.args.place) = c.read_marks-marks.ensures ∙ ap (λ (k : Kind). marks_of k c.sector_view-bytes.result.now) (ap (λ (s : Geometry). s.kind) c.geometry-kind.ensures) ∙ ap (marks_of (kind_on d c.args.area.now)) c.sector_view-bytes.ensures.bytes in
    let begun = ap (λ (m : Marks). m.begun) marks in
    let closed = ap (λ (m : Marks). m.closed) marks in
    let guard = sym (c.has_guard.ensures ∙ ap has_guard c.sector_view-bytes.ensures.bytes) ∙ c.if-not-has_guard.true in
    full_counts sectors c.args.current c.args.place c.read_marks-marks.result.begun c.read_marks-marks.result.closed c.in_use.result c.in_use.ensures begun closed c.if-not-in_use.false (sym c.counts.ensures ∙ c.if-not-counts.false) false (holds_too_much (sector_at sectors c.args.place)) guard refl

pub returns : goal.returns
returns g c =
    let d : Device = g.F.Flash.device c.args.flash.now in
    let sectors : List (List ℕ) = sectors_of d c.args.area.now in
    let marks : c.read_marks-marks.result ≡ marks_of (kind_on d c.args.area.now) (sector_at sectors c.args.place) = c.read_marks-marks.ensures ∙ ap (λ (k : Kind). marks_of k c.sector_view-bytes.result.now) (ap (λ (s : Geometry). s.kind) c.geometry-kind.ensures) ∙ ap (marks_of (kind_on d c.args.area.now)) c.sector_view-bytes.ensures.bytes in
    let begun = ap (λ (m : Marks). m.begun) marks in
    let closed = ap (λ (m : Marks). m.closed) marks in
    let guard = sym (c.has_guard.ensures ∙ ap has_guard c.sector_view-bytes.ensures.bytes) ∙ c.if-not-has_guard.false in
    full_counts sectors c.args.current c.args.place c.read_marks-marks.result.begun c.read_marks-marks.result.closed c.in_use.result c.in_use.ensures begun closed c.if-not-in_use.false (sym c.counts.ensures ∙ c.if-not-counts.false) true c.holds_too_much.result guard (sym (c.holds_too_much.ensures ∙ ap holds_too_much c.sector_view-bytes.ensures.bytes))
