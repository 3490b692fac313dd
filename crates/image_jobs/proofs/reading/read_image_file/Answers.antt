use Rattle.std.proofs.Common.{List, ℕ, Err, inl, sym, subst}
use Rattle.image_file.specs.declared.image.ImageFault.{ImageFault}
use Rattle.image_file.specs.Format.{plain}
use Rattle.image_file.specs.Reading.{ReadsImage}
use Rattle.image_file.specs.Table.{FirstFault, rows}
use Rattle.image_jobs.specs.declared.stops.Stop.{Stop}
use Rattle.image_jobs.specs.Reading.{ReadsOr, HasImage, LacksImage}
use Rattle.image_jobs.proofs.reading.read_image_file.Goals as goal

pub returns-in-Err-Bad : goal.returns-in-Err-Bad
returns-in-Err-Bad g c =
    let host = g.H.Host.outside c.args.host.now in
    let host' = g.H.Host.outside c.read_whole.new.self in
    let text = c.in-Ok.bytes.items in
    let fault : FirstFault text (rows text) c.in-Err-Bad.at c.in-Err-Bad.why =
    subst (λ (text : List ℕ). FirstFault text (rows text) c.in-Err-Bad.at c.in-Err-Bad.why) c.as_slice.ensures.value
    (subst (λ (f : ImageFault). ReadsImage c.as_slice.result.now (Err f)) c.in-Err-Bad.field-0-is c.in-Err-Bad.ensures) in
    subst (λ (stop : Stop). ReadsOr (λ image. HasImage host c.args.name.now (plain image)) (LacksImage host c.args.name.now) host host' (Err stop)) (sym c.bad_file-in-Err-Bad.ensures)
    (inl (text, record { has = c.in-Ok.ensures.0; short = c.in-Ok.ensures.1 }, fault), c.in-Ok.ensures.2)
