-- The call that puts a record, on a device.
use Rattle.std.proofs.Common.{◌≡◌, ℕ, ◌+◌, ◌-◌, ◌*◌, ◌/◌, ◌%◌, ◌<◌, ◌≤◌, Bool, true, false, cond, eqb, List, [], ◌∷◌, ◌++◌, length, length-drop, get_or, set, take, drop, replicate, Some, inl, inr, refl, sym, ap, subst, ◌∙◌, arith}
use Rattle.std.specs.Prelude.{slice_range}
use Rattle.std.specs.Str.{bytes_eq}
use Rattle.std.proofs.lemmas.Bool.{both_ways, cases_eq, eq-eqb, ne_eqb}
use Rattle.std.proofs.lemmas.List.{append-nil, take-replicate, set-get_or, get_or-set_same, take_all, length-take-le}
use Rattle.std.proofs.lemmas.Slice.Eq.{bytes_eq-Decides}
use Rattle.flash_sim.specs.Bank.{IsLawful, bank_at}
use Rattle.flash_sim.specs.Device.{Device, overwritten, Programs, FailsToProgram, CutsShort, units_in}
use Rattle.flash_sim.specs.declared.flash.Bank.{Bank}
use Rattle.flash_sim.specs.declared.flash.TheConstants.{PROGRAM_LIMIT}
use Rattle.flash_sim.specs.declared.flash.Loss.{Loss}
use Rattle.flash_map.specs.Area.{unit_of, sector_size, sectors_of, sector_at, sector_bytes, place_of, CanProgramIn, Writes}
use Rattle.flash_map.specs.Spending.{Spends, SpendsAtMost}
use Rattle.flash_map.specs.Units.{padded}
use Rattle.flash_map.proofs.PieceLemmas.{next_fits}
use Rattle.flash_map.proofs.Places.{writes_put}
use Rattle.flash_map.proofs.Ranges.{range_at}
use Rattle.flash_map.proofs.Rounding.{IsPadding, padding}
use Rattle.flash_map.proofs.Sectors.{overwritten_nil}
use Rattle.flash_map.proofs.SpendingLemmas.{spends-programs, most-fails}
use Rattle.fcb_ring.specs.declared.record.RecordAt.{RecordAt}
use Rattle.fcb_ring.specs.declared.ring.Ring.{Ring}
use Rattle.fcb_ring.specs.Changing.{newest_place, sector_list, PutsRecord, CutList, IsRecordLoss, CutAppend}
use Rattle.fcb_ring.specs.Entries.{states, sector_entries, HasEntries}
use Rattle.fcb_ring.specs.Gains.{sector_records, records_in, GainsRecord, CutRecords, CutInRecord}
use Rattle.fcb_ring.specs.Records.{body_len, checks_at, record_of, records_end}
use Rattle.fcb_ring.specs.Rings.{turned, is_full, IsRing}
use Rattle.fcb_ring.specs.SectorStates.{IsSector}
use Rattle.fcb_ring.specs.Standing.{Stands, StandsOn, states_on, entries_on, KeepsEntries, is_finished}
use Rattle.fcb_ring.specs.Writing.{record_image, record_cost, cut_record, spelled, IsChance}
use Rattle.fcb_ring.proofs.AreaLemmas.{HasSize, has_size, count-sectors, length-states, area_after}
use Rattle.fcb_ring.proofs.FinishLemmas.{with_unit}
use Rattle.fcb_ring.proofs.ImageLemmas.{image-long, image-says, image-there, image-body, image-checks, cut-long, cut-says, cut-there, cut-laid}
use Rattle.fcb_ring.proofs.LayLemmas.{CanLay, end-after-header, laid_entry, laid-body, laid-len, laid-checks, laid-all}
use Rattle.fcb_ring.proofs.RecordLemmas.{header_fits, unit_aligned}
use Rattle.fcb_ring.proofs.RingLemmas.{undamaged, full-yes, full-no}
use Rattle.fcb_ring.proofs.NewestLemmas.{run-form, run-within, newest-in, newest-long, newest-sector, newest-end, newest-blank, laid_area, put-form, put-stands, put-undamaged, put-full, put-free, put-here, put-list, put-uncounted}

pub record-checks : (unit : ℕ) (y : List ℕ) (len : ℕ) → body_len (get_or y 0 0) (get_or y 1 0) ≡ len → (record_of unit y 0).checks ≡ checks_at y 0 unit len (unit + padded unit len)
unfolding record_of
record-checks unit y len says =
    let none : 0 + unit ≡ unit = omega arith in
    ap (λ (b : ℕ). checks_at y 0 b (body_len (get_or y 0 0) (get_or y 1 0)) (b + padded unit (body_len (get_or y 0 0) (get_or y 1 0)))) none
    ∙ ap (λ (n : ℕ). checks_at y 0 unit n (unit + padded unit n)) says

module _ (d : Device) (ring : Ring) (lawful : IsLawful d.banks d.bytes) (on : StandsOn d ring) (writes : is_finished ring.stage ≡ true) (some : 0 < ring.used) (body : List ℕ) (short : record_cost (unit_of d ring.area) (length body) ≤ PROGRAM_LIMIT)
    (fits : ring.end + record_cost (unit_of d ring.area) (length body) ≤ sector_size d ring.area) where
  abbrev unit : ℕ
  unit = unit_of d ring.area

  abbrev size : ℕ
  size = sector_size d ring.area

  abbrev old : List (List ℕ)
  old = sectors_of d ring.area

  has : HasSize (unit_of d ring.area) (sector_size d ring.area) (sectors_of d ring.area)
  has = has_size d ring.area lawful on.area

  count : length (sectors_of d ring.area) ≡ ring.area.sectors
  count = count-sectors d ring.area

  abbrev place : ℕ
  place = turned (length (sectors_of d ring.area)) ring.oldest (ring.used - 1)

  place-newest : newest_place ring ≡ turned (length (sectors_of d ring.area)) ring.oldest (ring.used - 1)
  place-newest = ap (λ (n : ℕ). turned n ring.oldest (ring.used - 1)) (sym count)

  abbrev s : List ℕ
  s = sector_at (sectors_of d ring.area) (turned (length (sectors_of d ring.area)) ring.oldest (ring.used - 1))

  few : length body ≤ 16383
  few = let pad = padding unit has.is_unit in omega (arith, pad.no_less (length body))

  sector : IsSector (unit_of d ring.area) s
  sector = newest-sector unit size old has ring on.sectors writes some

  long : length s ≡ sector_size d ring.area
  long = newest-long unit size old has ring on.sectors writes some

  end-is : ring.end ≡ records_end (unit_of d ring.area) s
  end-is = newest-end unit size old has ring on.sectors writes some

  blank : drop (records_end (unit_of d ring.area) s) s ≡ replicate (length s - records_end (unit_of d ring.area) s) 255
  blank = newest-blank unit size old has ring on.sectors writes some

  lay : CanLay (unit_of d ring.area) s (record_image (unit_of d ring.area) body) (length body)
  lay = record {
    sector = sector;
    fits = omega (arith, image-long unit has.is_unit body few, end-is, long);
    blank = blank;
    long = image-long unit has.is_unit body few;
    says = image-says unit has.is_unit body few;
    there = image-there unit has.is_unit body few;
  }

  pub record-long : (bytes : List ℕ) → bytes ≡ record_image (unit_of d ring.area) body → length bytes ≡ record_cost (unit_of d ring.area) (length body)
  record-long bytes is = ap length is ∙ image-long unit has.is_unit body few

  -- ---- the whole record

  pub can-record : (at : ℕ) (bytes : List ℕ) → at ≡ newest_place ring → bytes ≡ record_image (unit_of d ring.area) body → CanProgramIn d ring.area at ring.end bytes
  can-record at bytes at-is is =
      let n : length bytes ≡ record_cost (unit_of d ring.area) (length body) = ap length is ∙ image-long unit has.is_unit body few in
      let inside = newest-in unit size old has ring on.sectors writes some in
      let there = end-after-header unit s sector in
      let pad = padding unit has.is_unit in
      let e : ℕ = records_end unit s in
      record {
        has_sector = omega (arith, inside, count, at-is, place-newest);
        some = omega (arith, pad.positive);
        at_most = omega arith;
        whole_units = ap (λ (k : ℕ). k % unit) n ∙ pad.sum_aligned (unit + padded unit (length body)) unit (pad.sum_aligned unit (padded unit (length body)) (self-aligned pad) (pad.aligned (length body))) (self-aligned pad);
        aligned = ap (λ (k : ℕ). k % unit) end-is ∙ there.2;
        in_sector = omega arith;
        erased = λ kind.
            ap (λ (k : ℕ). slice_range (sector_at old k) ring.end (ring.end + length bytes)) (at-is ∙ place-newest)
            ∙ ap (λ (k : ℕ). take (k + length bytes - k) (drop k s)) end-is
            ∙ ap (take (e + length bytes - e)) blank
            ∙ take-replicate (e + length bytes - e) (length s - e) 255 (omega (arith, end-is, long))
            ∙ ap (λ (k : ℕ). replicate k 255) (omega arith);
      }
    where
      self-aligned : IsPadding (unit_of d ring.area) → unit_of d ring.area % unit_of d ring.area ≡ 0
      self-aligned pad = unit_aligned (unit_of d ring.area) has.is_unit

  module _ (new : Device) (banks : new.banks ≡ d.banks) where
    -- bytes that were written behind the records
    at-end : (at : ℕ) (bytes y : List ℕ) → at ≡ newest_place ring → Writes d new ring.area at ring.end bytes → overwritten s (records_end (unit_of d ring.area) s) bytes ≡ overwritten s (records_end (unit_of d ring.area) s) y
        → sectors_of new ring.area ≡ set (sectors_of d ring.area) (turned (length (sectors_of d ring.area)) ring.oldest (ring.used - 1)) (overwritten s (records_end (unit_of d ring.area) s) y)
    at-end at bytes y at-is written same =
        written
        ∙ ap (λ (k : ℕ). set old k (overwritten (sector_at old k) ring.end bytes)) (at-is ∙ place-newest)
        ∙ ap (λ (k : ℕ). set old place (overwritten s k bytes)) end-is
        ∙ ap (set old place) same

    -- what the sector gains where these bytes are laid behind its records
    gains-by : (y : List ℕ) (can : CanLay (unit_of d ring.area) s y (length body)) (b : Bool) → sectors_of new ring.area ≡ laid_area (unit_of d ring.area) (sector_size d ring.area) (sectors_of d ring.area) has ring on.sectors writes some y (length body) can
        → checks_at y 0 (unit_of d ring.area) (length body) (unit_of d ring.area + padded (unit_of d ring.area) (length body)) ≡ b → GainsRecord d new ring.area (newest_place ring) (slice_range y (unit_of d ring.area) (unit_of d ring.area + length body)) b
    gains-by y can b after checks = record {
      last = record_of unit (overwritten s (records_end unit s) y) (records_end unit s);
      len =
          let pad = padding unit has.is_unit in
          let from : unit + length body - unit ≡ length body = omega arith in
          laid-len unit s y (length body) can
          ∙ sym (length-take-le (unit + length body - unit) (drop unit y) (omega (arith, length-drop unit y, can.long, pad.no_less (length body))) ∙ from);
      checks = laid-checks unit s y (length body) can ∙ checks;
      all =
          ap (λ (k : ℕ). records_in new ring.area k) place-newest
          ∙ ap (λ (all : List Bank). sector_records (bank_at all ring.area.bank).unit (sector_at (sectors_of new ring.area) place)) banks
          ∙ ap (λ (l : List (List ℕ)). sector_records (unit_of d ring.area) (sector_at l place)) after
          ∙ ap (sector_records unit) (get_or-set_same old place (overwritten s (records_end unit s) y) [] (newest-in unit size old has ring on.sectors writes some))
          ∙ laid-all unit s y (length body) can
          ∙ ap (λ (k : ℕ). records_in d ring.area k ++ (record_of unit (overwritten s (records_end unit s) y) (records_end unit s), slice_range y unit (unit + length body)) ∷ []) (sym place-newest);
    }

    module _ (at : ℕ) (bytes : List ℕ) (at-is : at ≡ newest_place ring) (is : bytes ≡ record_image (unit_of d ring.area) body) (written : Writes d new ring.area at ring.end bytes) where
      abbrev image : List ℕ
      image = record_image (unit_of d ring.area) body

      after : sectors_of new ring.area ≡ laid_area (unit_of d ring.area) (sector_size d ring.area) (sectors_of d ring.area) has ring on.sectors writes some (record_image (unit_of d ring.area) body) (length body) lay
      after = at-end at bytes image at-is written (ap (overwritten s (records_end unit s)) is)

      pub put-stands-on : (end : ℕ) → end ≡ ring.end + length bytes → StandsOn new (record ring { end = end })
      put-stands-on end end-of = record {
        area = area_after d new ring.area banks on.area;
        sectors = with_unit (λ (u : ℕ). Stands u (sectors_of new ring.area) (record ring { end = end })) d new ring.area banks
            (subst (λ (n : ℕ). Stands (unit_of d ring.area) (sectors_of new ring.area) (record ring { end = n })) (ap (λ (l : List ℕ). ring.end + length l) (sym is) ∙ sym end-of)
            (subst (λ (l : List (List ℕ)). Stands (unit_of d ring.area) l (record ring { end = ring.end + length (record_image (unit_of d ring.area) body) })) (sym after) (put-stands unit size old has ring on.sectors writes some image (length body) lay)));
      }

      entry : RecordAt × List ℕ
      entry = laid_entry (unit_of d ring.area) s (record_image (unit_of d ring.area) body) (length body) lay place

      abbrev at-record : RecordAt
      at-record = (laid_entry (unit_of d ring.area) s (record_image (unit_of d ring.area) body) (length body) lay place).0

      entry-is : laid_entry (unit_of d ring.area) s (record_image (unit_of d ring.area) body) (length body) lay place ≡ (at-record, body)
      entry-is = ap (λ (b : List ℕ). (at-record, b)) (laid-body unit s image (length body) lay place ∙ image-body unit has.is_unit body few)

      one-more : cond (checks_at (record_image (unit_of d ring.area) body) 0 (unit_of d ring.area) (length body) (unit_of d ring.area + padded (unit_of d ring.area) (length body))) (laid_entry (unit_of d ring.area) s (record_image (unit_of d ring.area) body) (length body) lay place ∷ []) [] ≡ (at-record, body) ∷ []
      one-more =
          ap (λ (b : Bool). cond b (laid_entry (unit_of d ring.area) s image (length body) lay place ∷ []) []) (image-checks unit has.is_unit body few)
          ∙ ap (λ (x : RecordAt × List ℕ). x ∷ []) entry-is

      list-after : HasEntries (unit_of d ring.area) (sectors_of new ring.area) (entries_on d ring.area ++ cond (eqb ring.used ring.area.sectors) [] ((at-record, body) ∷ []))
      list-after = subst (λ (l : List (List ℕ)). HasEntries (unit_of d ring.area) l (entries_on d ring.area ++ cond (eqb ring.used ring.area.sectors) [] ((at-record, body) ∷ []))) (sym after)
          (record {
            undamaged = put-undamaged unit size old has ring on.sectors writes some image (length body) lay;
            are = elim (cases_eq ring.used ring.area.sectors) [
              | inl full ↦
                  put-uncounted unit size old has ring on.sectors writes some image (length body) lay (full ∙ sym count)
                  ∙ sym (ap (λ (b : Bool). entries_on d ring.area ++ cond b [] ((at-record, body) ∷ [])) (eq-eqb ring.used ring.area.sectors full) ∙ append-nil (entries_on d ring.area))
              | inr free ↦
                  put-list unit size old has ring on.sectors writes some image (length body) lay (omega (arith, free, count, (run-within unit size old has ring on.sectors writes).1))
                  ∙ ap (λ (l : List (RecordAt × List ℕ)). entries_on d ring.area ++ l) one-more
                  ∙ sym (ap (λ (b : Bool). entries_on d ring.area ++ cond b [] ((at-record, body) ∷ [])) (ne_eqb ring.used ring.area.sectors free))
            ];
          })

      pub puts-record : PutsRecord d new ring body
      puts-record = record {
        at = at-record;
        sector = sym place-newest;
        here =
            ap (λ (k : ℕ). sector_entries (unit_of new ring.area) k (sector_at (sectors_of new ring.area) k)) place-newest
            ∙ ap (λ (all : List Bank). sector_entries (bank_at all ring.area.bank).unit place (sector_at (sectors_of new ring.area) place)) banks
            ∙ ap (λ (l : List (List ℕ)). sector_entries (unit_of d ring.area) place (sector_at l place)) after
            ∙ put-here unit size old has ring on.sectors writes some image (length body) lay
            ∙ ap (λ (l : List (RecordAt × List ℕ)). sector_entries (unit_of d ring.area) place s ++ l) one-more
            ∙ ap (λ (k : ℕ). sector_list d ring.area k ++ (at-record, body) ∷ []) (sym place-newest);
        list = with_unit (λ (u : ℕ). HasEntries u (sectors_of new ring.area) (entries_on d ring.area ++ cond (eqb ring.used ring.area.sectors) [] ((at-record, body) ∷ []))) d new ring.area banks list-after;
      }

      pub record-gains : GainsRecord d new ring.area (newest_place ring) body true
      record-gains = subst (λ (b : List ℕ). GainsRecord d new ring.area (newest_place ring) b true) (image-body unit has.is_unit body few) (gains-by image lay true after (image-checks unit has.is_unit body few))

      pub record-stands : (end : ℕ) → end ≡ ring.end + length bytes → slice_range (sector_bytes new ring.area (newest_place ring)) (end - record_cost (unit_of new ring.area) (length body)) end ≡ record_image (unit_of new ring.area) body
      record-stands end end-of =
          let n : length bytes ≡ record_cost (unit_of d ring.area) (length body) = record-long bytes is in
          let inside = newest-in unit size old has ring on.sectors writes some in
          let from : end - record_cost (unit_of d ring.area) (length body) ≡ ring.end = omega arith in
          let here : at < length (sectors_of d ring.area) = omega (arith, inside, at-is, place-newest) in
          let sector-long : length (sector_at (sectors_of d ring.area) at) ≡ sector_size d ring.area = has.each at here in
          with_unit (λ (u : ℕ). slice_range (sector_bytes new ring.area (newest_place ring)) (end - record_cost u (length body)) end ≡ record_image u body) d new ring.area banks
          (ap (λ (k : ℕ). slice_range (sector_bytes new ring.area (newest_place ring)) k end) from
          ∙ ap (λ (k : ℕ). slice_range (sector_bytes new ring.area (newest_place ring)) ring.end k) end-of
          ∙ ap (λ (p : ℕ). slice_range (sector_bytes new ring.area p) ring.end (ring.end + length bytes)) (sym at-is)
          ∙ ap (λ (l : List (List ℕ)). slice_range (sector_at l at) ring.end (ring.end + length bytes)) written
          ∙ ap (λ (l : List ℕ). slice_range l ring.end (ring.end + length bytes)) (get_or-set_same (sectors_of d ring.area) at (overwritten (sector_at (sectors_of d ring.area) at) ring.end bytes) [] here)
          ∙ range_at (sector_at (sectors_of d ring.area) at) ring.end bytes (length bytes) (omega arith) (omega arith)
          ∙ take_all (length bytes) bytes (omega arith)
          ∙ is)

      pub record-spends : Programs d new (place_of d ring.area at ring.end) bytes → Spends d new (record_cost (unit_of d ring.area) (length body) / unit_of d ring.area)
      record-spends programs = subst (λ (n : ℕ). Spends d new (n / unit_of d ring.area)) (ap length is ∙ image-long unit has.is_unit body few) (spends-programs d new (place_of d ring.area at ring.end) bytes programs)

    pub record-most : (at : ℕ) (bytes : List ℕ) → bytes ≡ record_image (unit_of d ring.area) body → FailsToProgram d new (place_of d ring.area at ring.end) bytes → SpendsAtMost d new (record_cost (unit_of d ring.area) (length body) / unit_of d ring.area)
    record-most at bytes is fails = subst (λ (n : ℕ). SpendsAtMost d new (n / unit_of d ring.area)) (ap length is ∙ image-long unit has.is_unit body few) (most-fails d new (place_of d ring.area at ring.end) bytes fails)

    -- ---- and one that was cut

    old-has : HasEntries (unit_of d ring.area) (sectors_of d ring.area) (entries_on d ring.area)
    old-has = record {
      undamaged = undamaged (states unit old) ring.oldest ring.used (run-form unit size old has ring on.sectors writes) (λ k lt. on.sectors.clean k (omega arith));
      are = refl;
    }

    old-full : ring.used ≡ ring.area.sectors → is_full (states (unit_of d ring.area) (sectors_of d ring.area)) ≡ true
    old-full full = full-yes (states unit old) ring.oldest ring.used (run-form unit size old has ring on.sectors writes) (omega (arith, full, count, length-states unit old))

    old-free : ring.used < ring.area.sectors → is_full (states (unit_of d ring.area) (sectors_of d ring.area)) ≡ false
    old-free free = full-no (states unit old) ring.oldest ring.used (run-form unit size old has ring on.sectors writes) (omega (arith, free, count, length-states unit old))

    -- the first units of the record stand behind the others
    module _ (at done : ℕ) (at-is : at ≡ newest_place ring) (below : done < record_cost (unit_of d ring.area) (length body) / unit_of d ring.area) (written : Writes d new ring.area at ring.end (take (done * unit_of d ring.area) (record_image (unit_of d ring.area) body))) where
      part : done * unit_of d ring.area ≤ record_cost (unit_of d ring.area) (length body)
      part = let next = next_fits done (record_cost unit (length body)) unit below in omega arith

      nothing-put : done ≡ 0 → sectors_of new ring.area ≡ sectors_of d ring.area
      nothing-put none =
          let zero_is : done * unit ≡ 0 = let e : 0 * unit ≡ 0 = omega arith in ap (λ (n : ℕ). n * unit) none ∙ e in
          let prefix : take (done * unit) (record_image unit body) ≡ [] = ap (λ (n : ℕ). take n (record_image unit body)) zero_is in
          at-end at (take (done * unit) (record_image unit body)) [] at-is written (ap (overwritten s (records_end unit s)) prefix)
          ∙ ap (set old place) (overwritten_nil s (records_end unit s)) ∙ set-get_or old place []

      module _ (any : 0 < done) where
        lay-cut : CanLay (unit_of d ring.area) s (cut_record (unit_of d ring.area) body done) (length body)
        lay-cut = record {
          sector = sector;
          fits = omega (arith, cut-long unit has.is_unit body few done any part, end-is, long);
          blank = blank;
          long = cut-long unit has.is_unit body few done any part;
          says = cut-says unit has.is_unit body few done any part;
          there = cut-there unit has.is_unit body few done any part;
        }

        abbrev torn : List ℕ
        torn = cut_record (unit_of d ring.area) body done

        after-cut : sectors_of new ring.area ≡ laid_area (unit_of d ring.area) (sector_size d ring.area) (sectors_of d ring.area) has ring on.sectors writes some (cut_record (unit_of d ring.area) body done) (length body) lay-cut
        after-cut = at-end at (take (done * unit) (record_image unit body)) torn at-is written (cut-laid unit has.is_unit body few done any part s (records_end unit s) (omega (arith, end-is, long)) blank)

        abbrev torn-record : RecordAt
        torn-record = (laid_entry (unit_of d ring.area) s (cut_record (unit_of d ring.area) body done) (length body) lay-cut place).0

        torn-entry : laid_entry (unit_of d ring.area) s (cut_record (unit_of d ring.area) body done) (length body) lay-cut place ≡ (torn-record, spelled (unit_of d ring.area) body done)
        torn-entry = ap (λ (b : List ℕ). (torn-record, b)) (laid-body unit s torn (length body) lay-cut place)

        torn-checks : (record_of (unit_of d ring.area) (cut_record (unit_of d ring.area) body done) 0).checks ≡ checks_at (cut_record (unit_of d ring.area) body done) 0 (unit_of d ring.area) (length body) (unit_of d ring.area + padded (unit_of d ring.area) (length body))
        torn-checks = record-checks unit torn (length body) (cut-says unit has.is_unit body few done any part)

        torn-list : ring.used < ring.area.sectors → (b : Bool) → (record_of (unit_of d ring.area) (cut_record (unit_of d ring.area) body done) 0).checks ≡ b
            → HasEntries (unit_of d ring.area) (sectors_of new ring.area) (entries_on d ring.area ++ cond b ((torn-record, spelled (unit_of d ring.area) body done) ∷ []) [])
        torn-list free b is = subst (λ (l : List (List ℕ)). HasEntries (unit_of d ring.area) l (entries_on d ring.area ++ cond b ((torn-record, spelled (unit_of d ring.area) body done) ∷ []) [])) (sym after-cut)
            (record {
              undamaged = put-undamaged unit size old has ring on.sectors writes some torn (length body) lay-cut;
              are =
                  put-list unit size old has ring on.sectors writes some torn (length body) lay-cut (omega (arith, count))
                  ∙ ap (λ (t : Bool). entries_on d ring.area ++ cond t (laid_entry (unit_of d ring.area) s torn (length body) lay-cut place ∷ []) []) (sym torn-checks ∙ is)
                  ∙ ap (λ (x : RecordAt × List ℕ). entries_on d ring.area ++ cond b (x ∷ []) []) torn-entry;
            })

        cut-by : (b same : Bool) → ring.used < ring.area.sectors → (record_of (unit_of d ring.area) (cut_record (unit_of d ring.area) body done) 0).checks ≡ b
            → bytes_eq (cut_record (unit_of d ring.area) body done) (record_image (unit_of d ring.area) body) ≡ same → CutList (unit_of d ring.area) (sectors_of new ring.area) (entries_on d ring.area) (newest_place ring) body done
        cut-by false same free is whether =
            inl (
              (λ (chance : IsChance (unit_of d ring.area) body done). both_ways (record_of (unit_of d ring.area) torn 0).checks is chance.checks),
              subst (λ (l : List (RecordAt × List ℕ)). HasEntries (unit_of d ring.area) (sectors_of new ring.area) l) (append-nil (entries_on d ring.area)) (torn-list free false is),
            )
        cut-by true true free is whether =
            let equal : cut_record (unit_of d ring.area) body done ≡ record_image (unit_of d ring.area) body = (bytes_eq-Decides torn (record_image unit body)).0 whether in
            let reads : spelled (unit_of d ring.area) body done ≡ body = ap (λ (l : List ℕ). slice_range l unit (unit + length body)) equal ∙ image-body unit has.is_unit body few in
            inr (inl (torn-record, sym place-newest, equal, subst (λ (x : List ℕ). HasEntries (unit_of d ring.area) (sectors_of new ring.area) (entries_on d ring.area ++ (torn-record, x) ∷ [])) reads (torn-list free true is)))
        cut-by true false free is whether =
            inr (inr (
              torn-record,
              sym place-newest,
              record {
                some = any;
                fewer = below;
                checks = is;
                differs = λ (equal : cut_record (unit_of d ring.area) body done ≡ record_image (unit_of d ring.area) body). both_ways (bytes_eq torn (record_image unit body)) whether ((bytes_eq-Decides torn (record_image unit body)).1 equal);
              },
              torn-list free true is,
            ))

        torn-gains : (b : Bool) → (record_of (unit_of d ring.area) (cut_record (unit_of d ring.area) body done) 0).checks ≡ b → GainsRecord d new ring.area (newest_place ring) (spelled (unit_of d ring.area) body done) b
        torn-gains b is = gains-by torn lay-cut b after-cut (sym torn-checks ∙ is)

        records-by : (b same : Bool) → (record_of (unit_of d ring.area) (cut_record (unit_of d ring.area) body done) 0).checks ≡ b
            → bytes_eq (cut_record (unit_of d ring.area) body done) (record_image (unit_of d ring.area) body) ≡ same → CutRecords (unit_of d ring.area) d new ring.area (newest_place ring) body done
        records-by false same is whether =
            inr (inl ((λ (chance : IsChance (unit_of d ring.area) body done). both_ways (record_of (unit_of d ring.area) torn 0).checks is chance.checks), torn-gains false is))
        records-by true true is whether =
            let equal : cut_record (unit_of d ring.area) body done ≡ record_image (unit_of d ring.area) body = (bytes_eq-Decides torn (record_image unit body)).0 whether in
            let reads : spelled (unit_of d ring.area) body done ≡ body = ap (λ (l : List ℕ). slice_range l unit (unit + length body)) equal ∙ image-body unit has.is_unit body few in
            inr (inr (inl (equal, subst (λ (x : List ℕ). GainsRecord d new ring.area (newest_place ring) x true) reads (torn-gains true is))))
        records-by true false is whether =
            inr (inr (inr (
              record {
                some = any;
                fewer = below;
                checks = is;
                differs = λ (equal : cut_record (unit_of d ring.area) body done ≡ record_image (unit_of d ring.area) body). both_ways (bytes_eq torn (record_image unit body)) whether ((bytes_eq-Decides torn (record_image unit body)).1 equal);
              },
              torn-gains true is,
            )))

        torn-form : IsRing (states (unit_of d ring.area) (sectors_of new ring.area)) ring.oldest ring.used
        torn-form = subst (λ (l : List (List ℕ)). IsRing (states (unit_of d ring.area) l) ring.oldest ring.used) (sym after-cut) (put-form unit size old has ring on.sectors writes some torn (length body) lay-cut)

        torn-full : ring.used ≡ ring.area.sectors → is_full (states (unit_of d ring.area) (sectors_of new ring.area)) ≡ true
        torn-full full =
            ap (λ (l : List (List ℕ)). is_full (states (unit_of d ring.area) l)) after-cut
            ∙ put-full unit size old has ring on.sectors writes some torn (length body) lay-cut (full ∙ sym count)

        torn-free : ring.used < ring.area.sectors → is_full (states (unit_of d ring.area) (sectors_of new ring.area)) ≡ false
        torn-free free =
            ap (λ (l : List (List ℕ)). is_full (states (unit_of d ring.area) l)) after-cut
            ∙ put-free unit size old has ring on.sectors writes some torn (length body) lay-cut (omega (arith, free, count))

        torn-kept : ring.used ≡ ring.area.sectors → HasEntries (unit_of d ring.area) (sectors_of new ring.area) (entries_on d ring.area)
        torn-kept full = subst (λ (l : List (List ℕ)). HasEntries (unit_of d ring.area) l (entries_on d ring.area)) (sym after-cut)
            (record {
              undamaged = put-undamaged unit size old has ring on.sectors writes some torn (length body) lay-cut;
              are = put-uncounted unit size old has ring on.sectors writes some torn (length body) lay-cut (full ∙ sym count);
            })

      cut-full : ring.used ≡ ring.area.sectors → is_full (states (unit_of d ring.area) (sectors_of new ring.area)) ≡ true
      cut-full full = elim (cases_eq done 0) [
        | inl none ↦ ap (λ (l : List (List ℕ)). is_full (states (unit_of d ring.area) l)) (nothing-put none) ∙ old-full full
        | inr more ↦ torn-full (omega (arith, more)) full
      ]

      cut-free : ring.used < ring.area.sectors → is_full (states (unit_of d ring.area) (sectors_of new ring.area)) ≡ false
      cut-free free = elim (cases_eq done 0) [
        | inl none ↦ ap (λ (l : List (List ℕ)). is_full (states (unit_of d ring.area) l)) (nothing-put none) ∙ old-free free
        | inr more ↦ torn-free (omega (arith, more)) free
      ]

      cut-list : ring.used < ring.area.sectors → CutList (unit_of d ring.area) (sectors_of new ring.area) (entries_on d ring.area) (newest_place ring) body done
      cut-list free = elim (cases_eq done 0) [
        | inl none ↦ inl ((λ (chance : IsChance (unit_of d ring.area) body done). let h = chance.some in absurd (omega arith)), subst (λ (l : List (List ℕ)). HasEntries (unit_of d ring.area) l (entries_on d ring.area)) (sym (nothing-put none)) old-has)
        | inr more ↦ cut-by (omega (arith, more)) (record_of (unit_of d ring.area) (cut_record unit body done) 0).checks (bytes_eq (cut_record unit body done) (record_image unit body)) free refl refl
      ]

      cut-records : CutRecords (unit_of d ring.area) d new ring.area (newest_place ring) body done
      cut-records = elim (cases_eq done 0) [
        | inl none ↦ inl (
          (λ (chance : IsChance (unit_of d ring.area) body done). let h = chance.some in absurd (omega arith)),
          ap (λ (all : List Bank). sector_records (bank_at all ring.area.bank).unit (sector_at (sectors_of new ring.area) (newest_place ring))) banks
              ∙ ap (λ (l : List (List ℕ)). sector_records (unit_of d ring.area) (sector_at l (newest_place ring))) (nothing-put none),
        )
        | inr more ↦ records-by (omega (arith, more)) (record_of (unit_of d ring.area) (cut_record unit body done) 0).checks (bytes_eq (cut_record unit body done) (record_image unit body)) refl refl
      ]

      cut-form : IsRing (states (unit_of d ring.area) (sectors_of new ring.area)) ring.oldest ring.used
      cut-form = elim (cases_eq done 0) [
        | inl none ↦ subst (λ (l : List (List ℕ)). IsRing (states (unit_of d ring.area) l) ring.oldest ring.used) (sym (nothing-put none)) (run-form unit size old has ring on.sectors writes)
        | inr more ↦ torn-form (omega (arith, more))
      ]

      cut-kept : ring.used ≡ ring.area.sectors → HasEntries (unit_of d ring.area) (sectors_of new ring.area) (entries_on d ring.area)
      cut-kept full = elim (cases_eq done 0) [
        | inl none ↦ subst (λ (l : List (List ℕ)). HasEntries (unit_of d ring.area) l (entries_on d ring.area)) (sym (nothing-put none)) old-has
        | inr more ↦ torn-kept (omega (arith, more)) full
      ]

    cut-written : (at : ℕ) (bytes : List ℕ) → at ≡ newest_place ring → bytes ≡ record_image (unit_of d ring.area) body → (done : ℕ) → done < units_in d ring.area.bank bytes → CutsShort d new (place_of d ring.area at ring.end) bytes done
        → (done < record_cost (unit_of d ring.area) (length body) / unit_of d ring.area) × Writes d new ring.area at ring.end (take (done * unit_of d ring.area) (record_image (unit_of d ring.area) body))
    cut-written at bytes at-is is done below cuts =
        let n : length bytes ≡ record_cost (unit_of d ring.area) (length body) = ap length is ∙ image-long unit has.is_unit body few in
        let fewer : done < record_cost (unit_of d ring.area) (length body) / unit_of d ring.area = subst (λ (k : ℕ). done < k / unit_of d ring.area) n below in
        let next = next_fits done (record_cost unit (length body)) unit fewer in
        let inside = newest-in unit size old has ring on.sectors writes some in
        let prefix : length (take (done * unit) bytes) ≡ done * unit = length-take-le (done * unit) bytes (omega arith) in
        let written : Writes d new ring.area at ring.end (take (done * unit) bytes) =
        subst (λ (x : Device). Writes d x ring.area at ring.end (take (done * unit) bytes)) (sym cuts.is)
        (writes_put d ring.area lawful on.area.lawful.in_bank at (omega (arith, inside, count, at-is, place-newest)) ring.end (take (done * unit) bytes) done (omega arith)) in
        (fewer, subst (λ (l : List ℕ). Writes d new ring.area at ring.end (take (done * unit_of d ring.area) l)) is written)

    record-loss : (at : ℕ) (bytes : List ℕ) → at ≡ newest_place ring → bytes ≡ record_image (unit_of d ring.area) body → (done : ℕ) → done < record_cost (unit_of d ring.area) (length body) / unit_of d ring.area → CutsShort d new (place_of d ring.area at ring.end) bytes done
        → IsRecordLoss new ring.area at ring.end body done
    record-loss at bytes at-is is done fewer cuts =
        let inside = newest-in unit size old has ring on.sectors writes some in
        let there = end-after-header unit s sector in
        let header = header_fits unit has.is_unit in
        record {
          has_sector = omega (arith, inside, count, at-is, place-newest);
          behind_header = omega (arith, end-is, there.0, header.1);
          in_sector = subst (λ (all : List Bank). ring.end + record_cost (bank_at all ring.area.bank).unit (length body) ≤ (bank_at all ring.area.bank).sector) (sym banks) fits;
          one_program = subst (λ (all : List Bank). record_cost (bank_at all ring.area.bank).unit (length body) ≤ PROGRAM_LIMIT) (sym banks) short;
          fewer = subst (λ (all : List Bank). done < record_cost (bank_at all ring.area.bank).unit (length body) / (bank_at all ring.area.bank).unit) (sym banks) fewer;
          loss =
              ap (λ (x : Device). x.last_loss) cuts.is
              ∙ ap (λ (l : List ℕ). Some (loss_of d.banks l)) is
              ∙ ap (λ (all : List Bank). Some (loss_of all (record_image (bank_at all ring.area.bank).unit body))) (sym banks);
        }
      where
        loss_of : List Bank → List ℕ → Loss
        loss_of all l = record { at = record { bank = ring.area.bank; offset = (ring.area.first + at) * (bank_at all ring.area.bank).sector + ring.end }; want = record { items = l }; done = done }

    pub record-cut : (at : ℕ) (bytes : List ℕ) → at ≡ newest_place ring → bytes ≡ record_image (unit_of d ring.area) body → FailsToProgram d new (place_of d ring.area at ring.end) bytes → ring.used < ring.area.sectors → CutAppend d new ring.area (newest_place ring) body
    record-cut at bytes at-is is (inl off) free =
        inl (record { list = subst (λ (x : Device). KeepsEntries d x ring.area) (sym off.is) old-has; loss = λ (is_on : d.is_on ≡ true). absurd (both_ways d.is_on off.off is_on) })
    record-cut at bytes at-is is (inr (done, below, cuts)) free =
        let w = cut-written at bytes at-is is done below cuts in
        inr (record {
          offset = ring.end;
          done = done;
          loss = subst (λ (p : ℕ). IsRecordLoss new ring.area p ring.end body done) at-is (record-loss at bytes at-is is done w.0 cuts);
          free = with_unit (λ (u : ℕ). is_full (states u (sectors_of new ring.area)) ≡ false) d new ring.area banks (cut-free at done at-is w.0 w.1 free);
          list = with_unit (λ (u : ℕ). CutList u (sectors_of new ring.area) (entries_on d ring.area) (newest_place ring) body done) d new ring.area banks (cut-list at done at-is w.0 w.1 free);
        })

    pub record-torn : (at : ℕ) (bytes : List ℕ) → at ≡ newest_place ring → bytes ≡ record_image (unit_of d ring.area) body → FailsToProgram d new (place_of d ring.area at ring.end) bytes → d.is_on ≡ true
        → CutInRecord d new ring (newest_place ring) ring.used body
    record-torn at bytes at-is is (inl off) is_on = absurd (both_ways d.is_on off.off is_on)
    record-torn at bytes at-is is (inr (done, below, cuts)) is_on =
        let w = cut-written at bytes at-is is done below cuts in
        record {
          offset = ring.end;
          done = done;
          loss = subst (λ (p : ℕ). IsRecordLoss new ring.area p ring.end body done) at-is (record-loss at bytes at-is is done w.0 cuts);
          form = with_unit (λ (u : ℕ). IsRing (states u (sectors_of new ring.area)) ring.oldest ring.used) d new ring.area banks (cut-form at done at-is w.0 w.1);
          records = with_unit (λ (u : ℕ). CutRecords u d new ring.area (newest_place ring) body done) d new ring.area banks (cut-records at done at-is w.0 w.1);
        }

    pub record-kept : (at : ℕ) (bytes : List ℕ) → at ≡ newest_place ring → bytes ≡ record_image (unit_of d ring.area) body → FailsToProgram d new (place_of d ring.area at ring.end) bytes → ring.used ≡ ring.area.sectors → KeepsEntries d new ring.area
    record-kept at bytes at-is is (inl off) full = subst (λ (x : Device). KeepsEntries d x ring.area) (sym off.is) old-has
    record-kept at bytes at-is is (inr (done, below, cuts)) full =
        let w = cut-written at bytes at-is is done below cuts in
        with_unit (λ (u : ℕ). HasEntries u (sectors_of new ring.area) (entries_on d ring.area)) d new ring.area banks (cut-kept at done at-is w.0 w.1 full)

    pub record-full : (at : ℕ) (bytes : List ℕ) → at ≡ newest_place ring → bytes ≡ record_image (unit_of d ring.area) body → FailsToProgram d new (place_of d ring.area at ring.end) bytes → ring.used ≡ ring.area.sectors → is_full (states_on new ring.area) ≡ true
    record-full at bytes at-is is (inl off) full = subst (λ (x : Device). is_full (states_on x ring.area) ≡ true) (sym off.is) (old-full full)
    record-full at bytes at-is is (inr (done, below, cuts)) full =
        let w = cut-written at bytes at-is is done below cuts in
        with_unit (λ (u : ℕ). is_full (states u (sectors_of new ring.area)) ≡ true) d new ring.area banks (cut-full at done at-is w.0 w.1 full)

    pub record-lost : (at : ℕ) (bytes : List ℕ) → at ≡ newest_place ring → bytes ≡ record_image (unit_of d ring.area) body → FailsToProgram d new (place_of d ring.area at ring.end) bytes → d.is_on ≡ true → (done : ℕ) × IsRecordLoss new ring.area (newest_place ring) ring.end body done
    record-lost at bytes at-is is (inl off) is_on = absurd (both_ways d.is_on off.off is_on)
    record-lost at bytes at-is is (inr (done, below, cuts)) is_on =
        let w = cut-written at bytes at-is is done below cuts in
        (done, subst (λ (p : ℕ). IsRecordLoss new ring.area p ring.end body done) at-is (record-loss at bytes at-is is done w.0 cuts))

    pub record-written : (at : ℕ) (bytes : List ℕ) → at ≡ newest_place ring → bytes ≡ record_image (unit_of d ring.area) body → Writes d new ring.area at ring.end bytes → Writes d new ring.area (newest_place ring) ring.end (record_image (unit_of d ring.area) body)
    record-written at bytes at-is is written =
        subst (λ (p : ℕ). Writes d new ring.area p ring.end (record_image (unit_of d ring.area) body)) at-is
        (subst (λ (l : List ℕ). Writes d new ring.area at ring.end l) is written)
