-- Made by tests/written/promises.py: for each public function of the libraries, that no second result fits its contract.
use seplogic.Ra.Ura.{Ura}
use base.Logic.{SProp}
use prog.Memory.{Memory}
use prog.Routine.{Routine}
use types.Logic.{Logic}
use contract.Monad.{Fun}
use mathlib.Core.Path.{◌≡◌, refl}
use Rattle.promises.specs.OneResult.{OneResult}
use Rattle.promises.proofs.Once.{told, told-in-two, each-list, same-value}
use Rattle.root_list.specs.contracts as root_list
use Rattle.root_guess.specs.contracts as root_guess
use Rattle.root.specs.contracts as root
use Rattle.ground.specs.contracts as ground
use Rattle.domain.specs.contracts as domain
use Rattle.outline.specs.contracts as outline
use Rattle.simplex.specs.contracts as simplex
use Rattle.distance.specs.contracts as distance
use Rattle.separation.specs.contracts as separation
use Rattle.sweep_toi.specs.contracts as sweep_toi
use Rattle.at_fraction.specs.contracts as at_fraction
use Rattle.toi_proxy.specs.contracts as toi_proxy
use Rattle.shapes.specs.contracts as shapes
use Rattle.text.specs.contracts as text
use Rattle.wire.specs.contracts as wire
use Rattle.block.specs.contracts as block
use Rattle.sweep_numbers.specs.contracts as sweep_numbers
use Rattle.work.specs.contracts as work
use Rattle.fields.specs.contracts as fields
use Rattle.sheet_lines.specs.contracts as sheet_lines
use Rattle.gaps_lines.specs.contracts as gaps_lines
use Rattle.any_contact_search.specs.contracts as any_contact_search
use Rattle.convert_forms.specs.contracts as convert_forms
use Rattle.salvage_walk.specs.contracts as salvage_walk
use Rattle.job_text.specs.contracts as job_text
use Rattle.pack_lines.specs.contracts as pack_lines
use Rattle.unpack_blocks.specs.contracts as unpack_blocks
use Rattle.report_counts.specs.contracts as report_counts
use Rattle.report_lines.specs.contracts as report_lines
use Rattle.report_batches.specs.contracts as report_batches
use Rattle.route_legs.specs.contracts as route_legs
use Rattle.route_line.specs.contracts as route_line
use Rattle.route_read.specs.contracts as route_read
use Rattle.route_text.specs.contracts as route_text
use Rattle.list_calls.specs.contracts as list_calls
use Rattle.foldflake.specs.contracts as foldflake
use Rattle.clearance_call.specs.contracts as clearance_call
use Rattle.places.specs.contracts as places
use Rattle.clearance_lists.specs.contracts as clearance_lists
use Rattle.all_clear_search.specs.contracts as all_clear_search
use Rattle.root64.specs.contracts as root64
use Rattle.ground64.specs.contracts as ground64
use Rattle.domain64.specs.contracts as domain64
use Rattle.outline64.specs.contracts as outline64
use Rattle.simplex64.specs.contracts as simplex64
use Rattle.distance64.specs.contracts as distance64
use Rattle.separation64.specs.contracts as separation64
use Rattle.sweep_toi64.specs.contracts as sweep_toi64
use Rattle.toi_proxy64.specs.contracts as toi_proxy64
use Rattle.sweep_numbers64.specs.contracts as sweep_numbers64
use Rattle.work64.specs.contracts as work64
use Rattle.fields64.specs.contracts as fields64
use Rattle.sheet_lines64.specs.contracts as sheet_lines64
use Rattle.list_calls64.specs.contracts as list_calls64
use Rattle.toi_proxy.specs.declared.ToiProxy.{ToiProxy}
use Rattle.sheet_lines.specs.declared.part.Written.{Written}
use Rattle.gaps_lines.specs.declared.part.Printed.{Printed}
use Rattle.convert_forms.specs.declared.Converted.{Converted}
use Rattle.salvage_walk.specs.declared.Salvaged.{Salvaged}
use Rattle.job_text.specs.declared.job.Built.{Built}
use Rattle.pack_lines.specs.declared.Packed.{Packed}
use Rattle.unpack_blocks.specs.declared.Unpacked.{Unpacked}
use Rattle.toi_proxy64.specs.declared.ToiProxy.{ToiProxy as ToiProxy64}
use Rattle.sheet_lines64.specs.declared.part.Written.{Written as Written64}

-- `ToiProxy`, where a contract tells its parts
toi-proxy-by-parts : {x y : ToiProxy} → x.points ≡ y.points → x.radius ≡ y.radius → x ≡ y
toi-proxy-by-parts p0 p1 = λ i. record { points = p0 i; radius = p1 i }

-- `Written`, where a contract tells its parts
written-by-parts : {x y : Written} → x.at ≡ y.at → x.totals ≡ y.totals → x.last ≡ y.last → x ≡ y
written-by-parts p0 p1 p2 = λ i. record { at = p0 i; totals = p1 i; last = p2 i }

-- `Printed`, where a contract tells its parts
printed-by-parts : {x y : Printed} → x.at ≡ y.at → x.tally ≡ y.tally → x.last ≡ y.last → x ≡ y
printed-by-parts p0 p1 p2 = λ i. record { at = p0 i; tally = p1 i; last = p2 i }

-- `Converted`, where a contract tells its parts
converted-by-parts : {x y : Converted} → x.file ≡ y.file → x.text ≡ y.text → x.blocks ≡ y.blocks → x.last ≡ y.last → x ≡ y
converted-by-parts p0 p1 p2 p3 = λ i. record { file = p0 i; text = p1 i; blocks = p2 i; last = p3 i }

-- `Salvaged`, where a contract tells its parts
salvaged-by-parts : {x y : Salvaged} → x.file ≡ y.file → x.text ≡ y.text → x.left ≡ y.left → x.walk ≡ y.walk → x.done ≡ y.done → x ≡ y
salvaged-by-parts p0 p1 p2 p3 p4 = λ i. record { file = p0 i; text = p1 i; left = p2 i; walk = p3 i; done = p4 i }

-- `Built`, where a contract tells its parts
built-by-parts : {x y : Built} → x.job ≡ y.job → x.block ≡ y.block → x ≡ y
built-by-parts p0 p1 = λ i. record { job = p0 i; block = p1 i }

-- `Packed`, where a contract tells its parts
packed-by-parts : {x y : Packed} → x.held ≡ y.held → x.at ≡ y.at → x.told ≡ y.told → x ≡ y
packed-by-parts p0 p1 p2 = λ i. record { held = p0 i; at = p1 i; told = p2 i }

-- `Unpacked`, where a contract tells its parts
unpacked-by-parts : {x y : Unpacked} → x.blocks ≡ y.blocks → x.at ≡ y.at → x.told ≡ y.told → x ≡ y
unpacked-by-parts p0 p1 p2 = λ i. record { blocks = p0 i; at = p1 i; told = p2 i }

-- `ToiProxy64`, where a contract tells its parts
toi-proxy64-by-parts : {x y : ToiProxy64} → x.points ≡ y.points → x.radius ≡ y.radius → x ≡ y
toi-proxy64-by-parts p0 p1 = λ i. record { points = p0 i; radius = p1 i }

-- `Written64`, where a contract tells its parts
written64-by-parts : {x y : Written64} → x.at ≡ y.at → x.totals ≡ y.totals → x.last ≡ y.last → x ≡ y
written64-by-parts p0 p1 p2 = λ i. record { at = p0 i; totals = p1 i; last = p2 i }

module _ {M : Type 1} {𝓤 : Ura M} (𝓛 : Logic 𝓤) (mem : Memory → SProp 𝓤) (run : Routine → Fun 𝓤) where
  -- ---- root_list
  pub root-list-entry : OneResult 𝓛 root_list.entry.ended (root_list.entry.spec 𝓛 mem run)
  root-list-entry = record {
    clauses = root_list.entry.clauses 𝓛 mem run;
    of-contract = refl;
    once = λ κs a g r r' v v'. told 𝓤 (λ p q. (search same-value, refl));
  }

  -- ---- root_guess
  pub root-guess-guess : OneResult 𝓛 root_guess.guess.ended (root_guess.guess.spec 𝓛 mem run)
  root-guess-guess = record {
    clauses = root_guess.guess.clauses 𝓛 mem run;
    of-contract = refl;
    once = λ κs a g r r' v v'. told 𝓤 (λ p q. (search same-value, refl));
  }

  -- ---- root
  pub root-root : OneResult 𝓛 root.root.ended (root.root.spec 𝓛 mem run)
  root-root = record {
    clauses = root.root.clauses 𝓛 mem run;
    of-contract = refl;
    once = λ κs a g r r' v v'. told 𝓤 (λ p q. (search same-value, refl));
  }

  -- ---- ground
  pub ground-abs : OneResult 𝓛 ground.abs.ended (ground.abs.spec 𝓛 mem run)
  ground-abs = record {
    clauses = ground.abs.clauses 𝓛 mem run;
    of-contract = refl;
    once = λ κs a g r r' v v'. told 𝓤 (λ p q. (search same-value, refl));
  }

  pub ground-add : OneResult 𝓛 ground.add.ended (ground.add.spec 𝓛 mem run)
  ground-add = record {
    clauses = ground.add.clauses 𝓛 mem run;
    of-contract = refl;
    once = λ κs a g r r' v v'. told 𝓤 (λ p q. (search same-value, refl));
  }

  pub ground-distance : OneResult 𝓛 ground.distance.ended (ground.distance.spec 𝓛 mem run)
  ground-distance = record {
    clauses = ground.distance.clauses 𝓛 mem run;
    of-contract = refl;
    once = λ κs a g r r' v v'. told 𝓤 (λ p q. (search same-value, refl));
  }

  pub ground-dot : OneResult 𝓛 ground.dot.ended (ground.dot.spec 𝓛 mem run)
  ground-dot = record {
    clauses = ground.dot.clauses 𝓛 mem run;
    of-contract = refl;
    once = λ κs a g r r' v v'. told 𝓤 (λ p q. (search same-value, refl));
  }

  pub ground-from-bits : OneResult 𝓛 ground.from_bits.ended (ground.from_bits.spec 𝓛 mem run)
  ground-from-bits = record {
    clauses = ground.from_bits.clauses 𝓛 mem run;
    of-contract = refl;
    once = λ κs a g r r' v v'. told 𝓤 (λ p q. (search same-value, refl));
  }

  pub ground-inv-mul : OneResult 𝓛 ground.inv_mul.ended (ground.inv_mul.spec 𝓛 mem run)
  ground-inv-mul = record {
    clauses = ground.inv_mul.clauses 𝓛 mem run;
    of-contract = refl;
    once = λ κs a g r r' v v'. told 𝓤 (λ p q. (search same-value, refl));
  }

  pub ground-inv-rotate-vec : OneResult 𝓛 ground.inv_rotate_vec.ended (ground.inv_rotate_vec.spec 𝓛 mem run)
  ground-inv-rotate-vec = record {
    clauses = ground.inv_rotate_vec.clauses 𝓛 mem run;
    of-contract = refl;
    once = λ κs a g r r' v v'. told 𝓤 (λ p q. (search same-value, refl));
  }

  pub ground-length : OneResult 𝓛 ground.length.ended (ground.length.spec 𝓛 mem run)
  ground-length = record {
    clauses = ground.length.clauses 𝓛 mem run;
    of-contract = refl;
    once = λ κs a g r r' v v'. told 𝓤 (λ p q. (search same-value, refl));
  }

  pub ground-lerp : OneResult 𝓛 ground.lerp.ended (ground.lerp.spec 𝓛 mem run)
  ground-lerp = record {
    clauses = ground.lerp.clauses 𝓛 mem run;
    of-contract = refl;
    once = λ κs a g r r' v v'. told 𝓤 (λ p q. (search same-value, refl));
  }

  pub ground-max : OneResult 𝓛 ground.max.ended (ground.max.spec 𝓛 mem run)
  ground-max = record {
    clauses = ground.max.clauses 𝓛 mem run;
    of-contract = refl;
    once = λ κs a g r r' v v'. told 𝓤 (λ p q. (search same-value, refl));
  }

  pub ground-neg : OneResult 𝓛 ground.neg.ended (ground.neg.spec 𝓛 mem run)
  ground-neg = record {
    clauses = ground.neg.clauses 𝓛 mem run;
    of-contract = refl;
    once = λ κs a g r r' v v'. told 𝓤 (λ p q. (search same-value, refl));
  }

  pub ground-nlerp : OneResult 𝓛 ground.nlerp.ended (ground.nlerp.spec 𝓛 mem run)
  ground-nlerp = record {
    clauses = ground.nlerp.clauses 𝓛 mem run;
    of-contract = refl;
    once = λ κs a g r r' v v'. told 𝓤 (λ p q. (search same-value, refl));
  }

  pub ground-normalize-or-zero : OneResult 𝓛 ground.normalize_or_zero.ended (ground.normalize_or_zero.spec 𝓛 mem run)
  ground-normalize-or-zero = record {
    clauses = ground.normalize_or_zero.clauses 𝓛 mem run;
    of-contract = refl;
    once = λ κs a g r r' v v'. told 𝓤 (λ p q. (search same-value, refl));
  }

  pub ground-perp-dot : OneResult 𝓛 ground.perp_dot.ended (ground.perp_dot.spec 𝓛 mem run)
  ground-perp-dot = record {
    clauses = ground.perp_dot.clauses 𝓛 mem run;
    of-contract = refl;
    once = λ κs a g r r' v v'. told 𝓤 (λ p q. (search same-value, refl));
  }

  pub ground-rotate-vec : OneResult 𝓛 ground.rotate_vec.ended (ground.rotate_vec.spec 𝓛 mem run)
  ground-rotate-vec = record {
    clauses = ground.rotate_vec.clauses 𝓛 mem run;
    of-contract = refl;
    once = λ κs a g r r' v v'. told 𝓤 (λ p q. (search same-value, refl));
  }

  pub ground-scale : OneResult 𝓛 ground.scale.ended (ground.scale.spec 𝓛 mem run)
  ground-scale = record {
    clauses = ground.scale.clauses 𝓛 mem run;
    of-contract = refl;
    once = λ κs a g r r' v v'. told 𝓤 (λ p q. (search same-value, refl));
  }

  pub ground-sub : OneResult 𝓛 ground.sub.ended (ground.sub.spec 𝓛 mem run)
  ground-sub = record {
    clauses = ground.sub.clauses 𝓛 mem run;
    of-contract = refl;
    once = λ κs a g r r' v v'. told 𝓤 (λ p q. (search same-value, refl));
  }

  pub ground-to-bits : OneResult 𝓛 ground.to_bits.ended (ground.to_bits.spec 𝓛 mem run)
  ground-to-bits = record {
    clauses = ground.to_bits.clauses 𝓛 mem run;
    of-contract = refl;
    once = λ κs a g r r' v v'. told 𝓤 (λ p q. (search same-value, refl));
  }

  pub ground-transform-point : OneResult 𝓛 ground.transform_point.ended (ground.transform_point.spec 𝓛 mem run)
  ground-transform-point = record {
    clauses = ground.transform_point.clauses 𝓛 mem run;
    of-contract = refl;
    once = λ κs a g r r' v v'. told 𝓤 (λ p q. (search same-value, refl));
  }

  -- ---- domain
  pub domain-bad-vector : OneResult 𝓛 domain.bad_vector.ended (domain.bad_vector.spec 𝓛 mem run)
  domain-bad-vector = record {
    clauses = domain.bad_vector.clauses 𝓛 mem run;
    of-contract = refl;
    once = λ κs a g r r' v v'. told 𝓤 (λ p q. (search same-value, refl));
  }

  pub domain-check-cache : OneResult 𝓛 domain.check_cache.ended (domain.check_cache.spec 𝓛 mem run)
  domain-check-cache = record {
    clauses = domain.check_cache.clauses 𝓛 mem run;
    of-contract = refl;
    once = λ κs a g r r' v v'. told 𝓤 (λ p q. (search same-value, refl));
  }

  pub domain-check-fraction : OneResult 𝓛 domain.check_fraction.ended (domain.check_fraction.spec 𝓛 mem run)
  domain-check-fraction = record {
    clauses = domain.check_fraction.clauses 𝓛 mem run;
    of-contract = refl;
    once = λ κs a g r r' v v'. told 𝓤 (λ p q. (search same-value, refl));
  }

  pub domain-check-outline : OneResult 𝓛 domain.check_outline.ended (domain.check_outline.spec 𝓛 mem run)
  domain-check-outline = record {
    clauses = domain.check_outline.clauses 𝓛 mem run;
    of-contract = refl;
    once = λ κs a g r r' v v'. told 𝓤 (λ p q. (search same-value, refl));
  }

  pub domain-check-pair : OneResult 𝓛 domain.check_pair.ended (domain.check_pair.spec 𝓛 mem run)
  domain-check-pair = record {
    clauses = domain.check_pair.clauses 𝓛 mem run;
    of-contract = refl;
    once = λ κs a g r r' v v'. told 𝓤 (λ p q. (search same-value, refl));
  }

  pub domain-check-pose : OneResult 𝓛 domain.check_pose.ended (domain.check_pose.spec 𝓛 mem run)
  domain-check-pose = record {
    clauses = domain.check_pose.clauses 𝓛 mem run;
    of-contract = refl;
    once = λ κs a g r r' v v'. told 𝓤 (λ p q. (search same-value, refl));
  }

  pub domain-check-slop : OneResult 𝓛 domain.check_slop.ended (domain.check_slop.spec 𝓛 mem run)
  domain-check-slop = record {
    clauses = domain.check_slop.clauses 𝓛 mem run;
    of-contract = refl;
    once = λ κs a g r r' v v'. told 𝓤 (λ p q. (search same-value, refl));
  }

  pub domain-check-sweeps : OneResult 𝓛 domain.check_sweeps.ended (domain.check_sweeps.spec 𝓛 mem run)
  domain-check-sweeps = record {
    clauses = domain.check_sweeps.clauses 𝓛 mem run;
    of-contract = refl;
    once = λ κs a g r r' v v'. told 𝓤 (λ p q. (search same-value, refl));
  }

  pub domain-pose-refusal : OneResult 𝓛 domain.pose_refusal.ended (domain.pose_refusal.spec 𝓛 mem run)
  domain-pose-refusal = record {
    clauses = domain.pose_refusal.clauses 𝓛 mem run;
    of-contract = refl;
    once = λ κs a g r r' v v'. told 𝓤 (λ p q. (search same-value, refl));
  }

  pub domain-refusal : OneResult 𝓛 domain.refusal.ended (domain.refusal.spec 𝓛 mem run)
  domain-refusal = record {
    clauses = domain.refusal.clauses 𝓛 mem run;
    of-contract = refl;
    once = λ κs a g r r' v v'. told 𝓤 (λ p q. (search same-value, refl));
  }

  -- ---- outline
  pub outline-point : OneResult 𝓛 outline.point.ended (outline.point.spec 𝓛 mem run)
  outline-point = record {
    clauses = outline.point.clauses 𝓛 mem run;
    of-contract = refl;
    once = λ κs a g r r' v v'. told 𝓤 (λ p q. (search same-value, refl));
  }

  pub outline-support : OneResult 𝓛 outline.support.ended (outline.support.spec 𝓛 mem run)
  outline-support = record {
    clauses = outline.support.clauses 𝓛 mem run;
    of-contract = refl;
    once = λ κs a g r r' v v'. told 𝓤 (λ p q. (search same-value, refl));
  }

  pub outline-support-index : OneResult 𝓛 outline.support_index.ended (outline.support_index.spec 𝓛 mem run)
  outline-support-index = record {
    clauses = outline.support_index.clauses 𝓛 mem run;
    of-contract = refl;
    once = λ κs a g r r' v v'. told 𝓤 (λ p q. (search same-value, refl));
  }

  pub outline-support-pair : OneResult 𝓛 outline.support_pair.ended (outline.support_pair.spec 𝓛 mem run)
  outline-support-pair = record {
    clauses = outline.support_pair.clauses 𝓛 mem run;
    of-contract = refl;
    once = λ κs a g r r' v v'. told 𝓤 (λ p q. (search same-value, refl));
  }

  -- ---- simplex
  pub simplex-solve : OneResult 𝓛 simplex.solve.ended (simplex.solve.spec 𝓛 mem run)
  simplex-solve = record {
    clauses = simplex.solve.clauses 𝓛 mem run;
    of-contract = refl;
    once = λ κs a g r r' v v'. told 𝓤 (λ p q. (search same-value, refl));
  }

  pub simplex-solve-simplex2 : OneResult 𝓛 simplex.solve_simplex2.ended (simplex.solve_simplex2.spec 𝓛 mem run)
  simplex-solve-simplex2 = record {
    clauses = simplex.solve_simplex2.clauses 𝓛 mem run;
    of-contract = refl;
    once = λ κs a g r r' v v'. told 𝓤 (λ p q. (search same-value, refl));
  }

  pub simplex-solve-simplex3 : OneResult 𝓛 simplex.solve_simplex3.ended (simplex.solve_simplex3.spec 𝓛 mem run)
  simplex-solve-simplex3 = record {
    clauses = simplex.solve_simplex3.clauses 𝓛 mem run;
    of-contract = refl;
    once = λ κs a g r r' v v'. told 𝓤 (λ p q. (search same-value, refl));
  }

  pub simplex-witness-points : OneResult 𝓛 simplex.witness_points.ended (simplex.witness_points.spec 𝓛 mem run)
  simplex-witness-points = record {
    clauses = simplex.witness_points.clauses 𝓛 mem run;
    of-contract = refl;
    once = λ κs a g r r' v v'. told 𝓤 (λ p q. (search same-value, refl));
  }

  -- ---- distance
  pub distance-proxy-distance-measure : OneResult 𝓛 distance.proxy_distance.measure.ended (distance.proxy_distance.measure.spec 𝓛 mem run)
  distance-proxy-distance-measure = record {
    clauses = distance.proxy_distance.measure.clauses 𝓛 mem run;
    of-contract = refl;
    once = λ κs a g r r' v v'. told 𝓤 (λ p q. (search same-value, refl));
  }

  pub distance-proxy-distance-proxy-distance : OneResult 𝓛 distance.proxy_distance.proxy_distance.ended (distance.proxy_distance.proxy_distance.spec 𝓛 mem run)
  distance-proxy-distance-proxy-distance = record {
    clauses = distance.proxy_distance.proxy_distance.clauses 𝓛 mem run;
    of-contract = refl;
    once = λ κs a g r r' v v'. told 𝓤 (λ p q. (search same-value, refl));
  }

  -- ---- separation
  pub separation-end-a : OneResult 𝓛 separation.end_a.ended (separation.end_a.spec 𝓛 mem run)
  separation-end-a = record {
    clauses = separation.end_a.clauses 𝓛 mem run;
    of-contract = refl;
    once = λ κs a g r r' v v'. told 𝓤 (λ p q. (search same-value, refl));
  }

  pub separation-end-b : OneResult 𝓛 separation.end_b.ended (separation.end_b.spec 𝓛 mem run)
  separation-end-b = record {
    clauses = separation.end_b.clauses 𝓛 mem run;
    of-contract = refl;
    once = λ κs a g r r' v v'. told 𝓤 (λ p q. (search same-value, refl));
  }

  pub separation-evaluate : OneResult 𝓛 separation.evaluate.ended (separation.evaluate.spec 𝓛 mem run)
  separation-evaluate = record {
    clauses = separation.evaluate.clauses 𝓛 mem run;
    of-contract = refl;
    once = λ κs a g r r' v v'. told 𝓤 (λ p q. (search same-value, refl));
  }

  pub separation-find-min-separation : OneResult 𝓛 separation.find_min_separation.ended (separation.find_min_separation.spec 𝓛 mem run)
  separation-find-min-separation = record {
    clauses = separation.find_min_separation.clauses 𝓛 mem run;
    of-contract = refl;
    once = λ κs a g r r' v v'. told 𝓤 (λ p q. (search same-value, refl));
  }

  pub separation-new-separation : OneResult 𝓛 separation.new_separation.ended (separation.new_separation.spec 𝓛 mem run)
  separation-new-separation = record {
    clauses = separation.new_separation.clauses 𝓛 mem run;
    of-contract = refl;
    once = λ κs a g r r' v v'. told 𝓤 (λ p q. (search same-value, refl));
  }

  pub separation-shifted : OneResult 𝓛 separation.shifted.ended (separation.shifted.spec 𝓛 mem run)
  separation-shifted = record {
    clauses = separation.shifted.clauses 𝓛 mem run;
    of-contract = refl;
    once = λ κs a g r r' v v'. told 𝓤 (λ p q. (search same-value, refl));
  }

  pub separation-transform-at : OneResult 𝓛 separation.transform_at.ended (separation.transform_at.spec 𝓛 mem run)
  separation-transform-at = record {
    clauses = separation.transform_at.clauses 𝓛 mem run;
    of-contract = refl;
    once = λ κs a g r r' v v'. told 𝓤 (λ p q. (search same-value, refl));
  }

  -- ---- sweep_toi
  pub sweep-toi-advance : OneResult 𝓛 sweep_toi.advance.ended (sweep_toi.advance.spec 𝓛 mem run)
  sweep-toi-advance = record {
    clauses = sweep_toi.advance.clauses 𝓛 mem run;
    of-contract = refl;
    once = λ κs a g r r' v v'. told 𝓤 (λ p q. (search same-value, refl));
  }

  pub sweep-toi-sweep-time-of-impact : OneResult 𝓛 sweep_toi.sweep_time_of_impact.ended (sweep_toi.sweep_time_of_impact.spec 𝓛 mem run)
  sweep-toi-sweep-time-of-impact = record {
    clauses = sweep_toi.sweep_time_of_impact.clauses 𝓛 mem run;
    of-contract = refl;
    once = λ κs a g r r' v v'. told 𝓤 (λ p q. (search same-value, refl));
  }

  -- ---- at_fraction
  pub at-fraction-gap : OneResult 𝓛 at_fraction.gap.ended (at_fraction.gap.spec 𝓛 mem run)
  at-fraction-gap = record {
    clauses = at_fraction.gap.clauses 𝓛 mem run;
    of-contract = refl;
    once = λ κs a g r r' v v'. told 𝓤 (λ p q. (search same-value, refl));
  }

  pub at-fraction-gap-at : OneResult 𝓛 at_fraction.gap_at.ended (at_fraction.gap_at.spec 𝓛 mem run)
  at-fraction-gap-at = record {
    clauses = at_fraction.gap_at.clauses 𝓛 mem run;
    of-contract = refl;
    once = λ κs a g r r' v v'. told 𝓤 (λ p q. (search same-value, refl));
  }

  pub at-fraction-pose-at : OneResult 𝓛 at_fraction.pose_at.ended (at_fraction.pose_at.spec 𝓛 mem run)
  at-fraction-pose-at = record {
    clauses = at_fraction.pose_at.clauses 𝓛 mem run;
    of-contract = refl;
    once = λ κs a g r r' v v'. told 𝓤 (λ p q. (search same-value, refl));
  }

  -- ---- toi_proxy
  pub toi-proxy-new : OneResult 𝓛 toi_proxy.new.ended (toi_proxy.new.spec 𝓛 mem run)
  toi-proxy-new = record {
    clauses = toi_proxy.new.clauses 𝓛 mem run;
    of-contract = refl;
    once = λ κs a g r r' v v'. told 𝓤 (λ p q. (search (same-value, toi-proxy-by-parts), refl));
  }

  pub toi-proxy-points : OneResult 𝓛 toi_proxy.points.ended (toi_proxy.points.spec 𝓛 mem run)
  toi-proxy-points = record {
    clauses = toi_proxy.points.clauses 𝓛 mem run;
    of-contract = refl;
    once = λ κs a g r r' v v'. told 𝓤 (λ p q. (search same-value, refl));
  }

  pub toi-proxy-proxy-distance : OneResult 𝓛 toi_proxy.proxy_distance.ended (toi_proxy.proxy_distance.spec 𝓛 mem run)
  toi-proxy-proxy-distance = record {
    clauses = toi_proxy.proxy_distance.clauses 𝓛 mem run;
    of-contract = refl;
    once = λ κs a g r r' v v'. told 𝓤 (λ p q. (search same-value, refl));
  }

  pub toi-proxy-radius : OneResult 𝓛 toi_proxy.radius.ended (toi_proxy.radius.spec 𝓛 mem run)
  toi-proxy-radius = record {
    clauses = toi_proxy.radius.clauses 𝓛 mem run;
    of-contract = refl;
    once = λ κs a g r r' v v'. told 𝓤 (λ p q. (search same-value, refl));
  }

  pub toi-proxy-support : OneResult 𝓛 toi_proxy.support.ended (toi_proxy.support.spec 𝓛 mem run)
  toi-proxy-support = record {
    clauses = toi_proxy.support.clauses 𝓛 mem run;
    of-contract = refl;
    once = λ κs a g r r' v v'. told 𝓤 (λ p q. (search same-value, refl));
  }

  pub toi-proxy-support-points : OneResult 𝓛 toi_proxy.support_points.ended (toi_proxy.support_points.spec 𝓛 mem run)
  toi-proxy-support-points = record {
    clauses = toi_proxy.support_points.clauses 𝓛 mem run;
    of-contract = refl;
    once = λ κs a g r r' v v'. told 𝓤 (λ p q. (search same-value, refl));
  }

  pub toi-proxy-sweep-time-of-impact : OneResult 𝓛 toi_proxy.sweep_time_of_impact.ended (toi_proxy.sweep_time_of_impact.spec 𝓛 mem run)
  toi-proxy-sweep-time-of-impact = record {
    clauses = toi_proxy.sweep_time_of_impact.clauses 𝓛 mem run;
    of-contract = refl;
    once = λ κs a g r r' v v'. told 𝓤 (λ p q. (search same-value, refl));
  }

  -- ---- shapes
  pub shapes-bar : OneResult 𝓛 shapes.bar.ended (shapes.bar.spec 𝓛 mem run)
  shapes-bar = record {
    clauses = shapes.bar.clauses 𝓛 mem run;
    of-contract = refl;
    once = λ κs a g r r' v v'. told 𝓤 (λ p q. (search same-value, each-list shapes.bar.ended κs a v v' (search same-value depth 12)));
  }

  pub shapes-placed-bar : OneResult 𝓛 shapes.placed_bar.ended (shapes.placed_bar.spec 𝓛 mem run)
  shapes-placed-bar = record {
    clauses = shapes.placed_bar.clauses 𝓛 mem run;
    of-contract = refl;
    once = λ κs a g r r' v v'. told 𝓤 (λ p q. (search same-value, each-list shapes.placed_bar.ended κs a v v' (search same-value depth 12)));
  }

  pub shapes-placed-plate : OneResult 𝓛 shapes.placed_plate.ended (shapes.placed_plate.spec 𝓛 mem run)
  shapes-placed-plate = record {
    clauses = shapes.placed_plate.clauses 𝓛 mem run;
    of-contract = refl;
    once = λ κs a g r r' v v'. told 𝓤 (λ p q. (search same-value, each-list shapes.placed_plate.ended κs a v v' (search same-value depth 12)));
  }

  pub shapes-plate : OneResult 𝓛 shapes.plate.ended (shapes.plate.spec 𝓛 mem run)
  shapes-plate = record {
    clauses = shapes.plate.clauses 𝓛 mem run;
    of-contract = refl;
    once = λ κs a g r r' v v'. told 𝓤 (λ p q. (search same-value, each-list shapes.plate.ended κs a v v' (search same-value depth 12)));
  }

  -- ---- text
  pub text-Draft-lacks : OneResult 𝓛 text.Draft.lacks.ended (text.Draft.lacks.spec 𝓛 mem run)
  text-Draft-lacks = record {
    clauses = text.Draft.lacks.clauses 𝓛 mem run;
    of-contract = refl;
    once = λ κs a g r r' v v'. told 𝓤 (λ p q. (search same-value, refl));
  }

  pub text-Draft-put : OneResult 𝓛 text.Draft.put.ended (text.Draft.put.spec 𝓛 mem run)
  text-Draft-put = record {
    clauses = text.Draft.put.clauses 𝓛 mem run;
    of-contract = refl;
    once = λ κs a g r r' v v'. told 𝓤 (λ p q. (search same-value, each-list text.Draft.put.ended κs a v v' (search same-value depth 12)));
  }

  pub text-Draft-put-hex : OneResult 𝓛 text.Draft.put_hex.ended (text.Draft.put_hex.spec 𝓛 mem run)
  text-Draft-put-hex = record {
    clauses = text.Draft.put_hex.clauses 𝓛 mem run;
    of-contract = refl;
    once = λ κs a g r r' v v'. told 𝓤 (λ p q. (search same-value, each-list text.Draft.put_hex.ended κs a v v' (search same-value depth 12)));
  }

  pub text-Draft-put-number : OneResult 𝓛 text.Draft.put_number.ended (text.Draft.put_number.spec 𝓛 mem run)
  text-Draft-put-number = record {
    clauses = text.Draft.put_number.clauses 𝓛 mem run;
    of-contract = refl;
    once = λ κs a g r r' v v'. told 𝓤 (λ p q. (search same-value, each-list text.Draft.put_number.ended κs a v v' (search same-value depth 12)));
  }

  pub text-Draft-put-wide-hex : OneResult 𝓛 text.Draft.put_wide_hex.ended (text.Draft.put_wide_hex.spec 𝓛 mem run)
  text-Draft-put-wide-hex = record {
    clauses = text.Draft.put_wide_hex.clauses 𝓛 mem run;
    of-contract = refl;
    once = λ κs a g r r' v v'. told 𝓤 (λ p q. (search same-value, each-list text.Draft.put_wide_hex.ended κs a v v' (search same-value depth 12)));
  }

  pub text-hex-digit : OneResult 𝓛 text.hex_digit.ended (text.hex_digit.spec 𝓛 mem run)
  text-hex-digit = record {
    clauses = text.hex_digit.clauses 𝓛 mem run;
    of-contract = refl;
    once = λ κs a g r r' v v'. told 𝓤 (λ p q. (search same-value, refl));
  }

  pub text-put-hex : OneResult 𝓛 text.put_hex.ended (text.put_hex.spec 𝓛 mem run)
  text-put-hex = record {
    clauses = text.put_hex.clauses 𝓛 mem run;
    of-contract = refl;
    once = λ κs a g r r' v v'. told 𝓤 (λ p q. (search same-value, each-list text.put_hex.ended κs a v v' (search same-value depth 12)));
  }

  pub text-put-number : OneResult 𝓛 text.put_number.ended (text.put_number.spec 𝓛 mem run)
  text-put-number = record {
    clauses = text.put_number.clauses 𝓛 mem run;
    of-contract = refl;
    once = λ κs a g r r' v v'. told 𝓤 (λ p q. (search same-value, each-list text.put_number.ended κs a v v' (search same-value depth 12)));
  }

  pub text-put-text : OneResult 𝓛 text.put_text.ended (text.put_text.spec 𝓛 mem run)
  text-put-text = record {
    clauses = text.put_text.clauses 𝓛 mem run;
    of-contract = refl;
    once = λ κs a g r r' v v'. told 𝓤 (λ p q. (search same-value, each-list text.put_text.ended κs a v v' (search same-value depth 12)));
  }

  pub text-put-wide-hex : OneResult 𝓛 text.put_wide_hex.ended (text.put_wide_hex.spec 𝓛 mem run)
  text-put-wide-hex = record {
    clauses = text.put_wide_hex.clauses 𝓛 mem run;
    of-contract = refl;
    once = λ κs a g r r' v v'. told 𝓤 (λ p q. (search same-value, each-list text.put_wide_hex.ended κs a v v' (search same-value depth 12)));
  }

  pub text-read-numbers : OneResult 𝓛 text.read_numbers.ended (text.read_numbers.spec 𝓛 mem run)
  text-read-numbers = record {
    clauses = text.read_numbers.clauses 𝓛 mem run;
    of-contract = refl;
    once = λ κs a g r r' v v'. told 𝓤 (λ p q. (search same-value, each-list text.read_numbers.ended κs a v v' (search same-value depth 12)));
  }

  -- ---- wire
  pub wire-byte : OneResult 𝓛 wire.byte.ended (wire.byte.spec 𝓛 mem run)
  wire-byte = record {
    clauses = wire.byte.clauses 𝓛 mem run;
    of-contract = refl;
    once = λ κs a g r r' v v'. told 𝓤 (λ p q. (search same-value, refl));
  }

  pub wire-word : OneResult 𝓛 wire.word.ended (wire.word.spec 𝓛 mem run)
  wire-word = record {
    clauses = wire.word.clauses 𝓛 mem run;
    of-contract = refl;
    once = λ κs a g r r' v v'. told 𝓤 (λ p q. (search same-value, refl));
  }

  pub wire-word-bytes : OneResult 𝓛 wire.word_bytes.ended (wire.word_bytes.spec 𝓛 mem run)
  wire-word-bytes = record {
    clauses = wire.word_bytes.clauses 𝓛 mem run;
    of-contract = refl;
    once = λ κs a g r r' v v'. told 𝓤 (λ p q. (search same-value, refl));
  }

  -- ---- block
  pub block-bad-count : OneResult 𝓛 block.bad_count.ended (block.bad_count.spec 𝓛 mem run)
  block-bad-count = record {
    clauses = block.bad_count.clauses 𝓛 mem run;
    of-contract = refl;
    once = λ κs a g r r' v v'. told 𝓤 (λ p q. (search same-value, refl));
  }

  pub block-check-block : OneResult 𝓛 block.check_block.ended (block.check_block.spec 𝓛 mem run)
  block-check-block = record {
    clauses = block.check_block.clauses 𝓛 mem run;
    of-contract = refl;
    once = λ κs a g r r' v v'. told 𝓤 (λ p q. (search same-value, refl));
  }

  pub block-good : OneResult 𝓛 block.good.ended (block.good.spec 𝓛 mem run)
  block-good = record {
    clauses = block.good.clauses 𝓛 mem run;
    of-contract = refl;
    once = λ κs a g r r' v v'. told 𝓤 (λ p q. (search same-value, refl));
  }

  pub block-sum-before : OneResult 𝓛 block.sum_before.ended (block.sum_before.spec 𝓛 mem run)
  block-sum-before = record {
    clauses = block.sum_before.clauses 𝓛 mem run;
    of-contract = refl;
    once = λ κs a g r r' v v'. told 𝓤 (λ p q. (search same-value, refl));
  }

  pub block-sum-of-words : OneResult 𝓛 block.sum_of_words.ended (block.sum_of_words.spec 𝓛 mem run)
  block-sum-of-words = record {
    clauses = block.sum_of_words.clauses 𝓛 mem run;
    of-contract = refl;
    once = λ κs a g r r' v v'. told 𝓤 (λ p q. (search same-value, refl));
  }

  -- ---- sweep_numbers
  pub sweep-numbers-move-at : OneResult 𝓛 sweep_numbers.move_at.ended (sweep_numbers.move_at.spec 𝓛 mem run)
  sweep-numbers-move-at = record {
    clauses = sweep_numbers.move_at.clauses 𝓛 mem run;
    of-contract = refl;
    once = λ κs a g r r' v v'. told 𝓤 (λ p q. (search same-value, refl));
  }

  pub sweep-numbers-move-of : OneResult 𝓛 sweep_numbers.move_of.ended (sweep_numbers.move_of.spec 𝓛 mem run)
  sweep-numbers-move-of = record {
    clauses = sweep_numbers.move_of.clauses 𝓛 mem run;
    of-contract = refl;
    once = λ κs a g r r' v v'. told 𝓤 (λ p q. (search same-value, refl));
  }

  pub sweep-numbers-sweep-of : OneResult 𝓛 sweep_numbers.sweep_of.ended (sweep_numbers.sweep_of.spec 𝓛 mem run)
  sweep-numbers-sweep-of = record {
    clauses = sweep_numbers.sweep_of.clauses 𝓛 mem run;
    of-contract = refl;
    once = λ κs a g r r' v v'. told 𝓤 (λ p q. (search same-value, refl));
  }

  pub sweep-numbers-told : OneResult 𝓛 sweep_numbers.told.ended (sweep_numbers.told.spec 𝓛 mem run)
  sweep-numbers-told = record {
    clauses = sweep_numbers.told.clauses 𝓛 mem run;
    of-contract = refl;
    once = λ κs a g r r' v v'. told 𝓤 (λ p q. (search same-value, refl));
  }

  pub sweep-numbers-told-by : OneResult 𝓛 sweep_numbers.told_by.ended (sweep_numbers.told_by.spec 𝓛 mem run)
  sweep-numbers-told-by = record {
    clauses = sweep_numbers.told_by.clauses 𝓛 mem run;
    of-contract = refl;
    once = λ κs a g r r' v v'. told 𝓤 (λ p q. (search same-value, refl));
  }

  pub sweep-numbers-turn : OneResult 𝓛 sweep_numbers.turn.ended (sweep_numbers.turn.spec 𝓛 mem run)
  sweep-numbers-turn = record {
    clauses = sweep_numbers.turn.clauses 𝓛 mem run;
    of-contract = refl;
    once = λ κs a g r r' v v'. told 𝓤 (λ p q. (search same-value, refl));
  }

  -- ---- work
  pub work-answer-block : OneResult 𝓛 work.answer_block.ended (work.answer_block.spec 𝓛 mem run)
  work-answer-block = record {
    clauses = work.answer_block.clauses 𝓛 mem run;
    of-contract = refl;
    once = λ κs a g r r' v v'. told 𝓤 (λ p q. (search same-value, refl));
  }

  -- ---- fields
  pub fields-letter-of : OneResult 𝓛 fields.letter_of.ended (fields.letter_of.spec 𝓛 mem run)
  fields-letter-of = record {
    clauses = fields.letter_of.clauses 𝓛 mem run;
    of-contract = refl;
    once = λ κs a g r r' v v'. told 𝓤 (λ p q. (search same-value, refl));
  }

  pub fields-put-contact : OneResult 𝓛 fields.put_contact.ended (fields.put_contact.spec 𝓛 mem run)
  fields-put-contact = record {
    clauses = fields.put_contact.clauses 𝓛 mem run;
    of-contract = refl;
    once = λ κs a g r r' v v'. told 𝓤 (λ p q. (search same-value, each-list fields.put_contact.ended κs a v v' (search same-value depth 12)));
  }

  -- ---- sheet_lines
  pub sheet-lines-write-line : OneResult 𝓛 sheet_lines.write_line.ended (sheet_lines.write_line.spec 𝓛 mem run)
  sheet-lines-write-line = record {
    clauses = sheet_lines.write_line.clauses 𝓛 mem run;
    of-contract = refl;
    once = λ κs a g r r' v v'. told 𝓤 (λ p q. (search same-value, each-list sheet_lines.write_line.ended κs a v v' (search same-value depth 12)));
  }

  pub sheet-lines-write-part : OneResult 𝓛 sheet_lines.write_part.ended (sheet_lines.write_part.spec 𝓛 mem run)
  sheet-lines-write-part = record {
    clauses = sheet_lines.write_part.clauses 𝓛 mem run;
    of-contract = refl;
    once = λ κs a g r r' v v'. told-in-two 𝓤 (λ p q. (search (same-value, written-by-parts), each-list sheet_lines.write_part.ended κs a v v' (search same-value depth 12)));
  }

  -- ---- gaps_lines
  pub gaps-lines-write-part : OneResult 𝓛 gaps_lines.write_part.ended (gaps_lines.write_part.spec 𝓛 mem run)
  gaps-lines-write-part = record {
    clauses = gaps_lines.write_part.clauses 𝓛 mem run;
    of-contract = refl;
    once = λ κs a g r r' v v'. told-in-two 𝓤 (λ p q. (search (same-value, printed-by-parts), each-list gaps_lines.write_part.ended κs a v v' (search same-value depth 12)));
  }

  -- ---- any_contact_search
  pub any-contact-search-search-part : OneResult 𝓛 any_contact_search.search_part.ended (any_contact_search.search_part.spec 𝓛 mem run)
  any-contact-search-search-part = record {
    clauses = any_contact_search.search_part.clauses 𝓛 mem run;
    of-contract = refl;
    once = λ κs a g r r' v v'. told 𝓤 (λ p q. (search same-value, refl));
  }

  pub any-contact-search-write-found : OneResult 𝓛 any_contact_search.write_found.ended (any_contact_search.write_found.spec 𝓛 mem run)
  any-contact-search-write-found = record {
    clauses = any_contact_search.write_found.clauses 𝓛 mem run;
    of-contract = refl;
    once = λ κs a g r r' v v'. told 𝓤 (λ p q. (search same-value, each-list any_contact_search.write_found.ended κs a v v' (search same-value depth 12)));
  }

  -- ---- convert_forms
  pub convert-forms-convert-part : OneResult 𝓛 convert_forms.convert_part.ended (convert_forms.convert_part.spec 𝓛 mem run)
  convert-forms-convert-part = record {
    clauses = convert_forms.convert_part.clauses 𝓛 mem run;
    of-contract = refl;
    once = λ κs a g r r' v v'. told-in-two 𝓤 (λ p q. (search (same-value, converted-by-parts), each-list convert_forms.convert_part.ended κs a v v' (search same-value depth 12)));
  }

  -- ---- salvage_walk
  pub salvage-walk-salvage-part : OneResult 𝓛 salvage_walk.salvage_part.ended (salvage_walk.salvage_part.spec 𝓛 mem run)
  salvage-walk-salvage-part = record {
    clauses = salvage_walk.salvage_part.clauses 𝓛 mem run;
    of-contract = refl;
    once = λ κs a g r r' v v'. told 𝓤 (λ p q. (search (same-value, salvaged-by-parts), each-list salvage_walk.salvage_part.ended κs a v v' (search same-value depth 12)));
  }

  pub salvage-walk-tell-last-run : OneResult 𝓛 salvage_walk.tell_last_run.ended (salvage_walk.tell_last_run.spec 𝓛 mem run)
  salvage-walk-tell-last-run = record {
    clauses = salvage_walk.tell_last_run.clauses 𝓛 mem run;
    of-contract = refl;
    once = λ κs a g r r' v v'. told 𝓤 (λ p q. (search same-value, each-list salvage_walk.tell_last_run.ended κs a v v' (search same-value depth 12)));
  }

  pub salvage-walk-tell-total : OneResult 𝓛 salvage_walk.tell_total.ended (salvage_walk.tell_total.spec 𝓛 mem run)
  salvage-walk-tell-total = record {
    clauses = salvage_walk.tell_total.clauses 𝓛 mem run;
    of-contract = refl;
    once = λ κs a g r r' v v'. told 𝓤 (λ p q. (search same-value, each-list salvage_walk.tell_total.ended κs a v v' (search same-value depth 12)));
  }

  -- ---- job_text
  pub job-text-check-plain : OneResult 𝓛 job_text.check_plain.ended (job_text.check_plain.spec 𝓛 mem run)
  job-text-check-plain = record {
    clauses = job_text.check_plain.clauses 𝓛 mem run;
    of-contract = refl;
    once = λ κs a g r r' v v'. told 𝓤 (λ p q. (search same-value, refl));
  }

  pub job-text-job-block : OneResult 𝓛 job_text.job_block.ended (job_text.job_block.spec 𝓛 mem run)
  job-text-job-block = record {
    clauses = job_text.job_block.clauses 𝓛 mem run;
    of-contract = refl;
    once = λ κs a g r r' v v'. told 𝓤 (λ p q. (search (same-value, built-by-parts), refl));
  }

  pub job-text-put-job : OneResult 𝓛 job_text.put_job.ended (job_text.put_job.spec 𝓛 mem run)
  job-text-put-job = record {
    clauses = job_text.put_job.clauses 𝓛 mem run;
    of-contract = refl;
    once = λ κs a g r r' v v'. told 𝓤 (λ p q. (search same-value, each-list job_text.put_job.ended κs a v v' (search same-value depth 12)));
  }

  pub job-text-put-refusal : OneResult 𝓛 job_text.put_refusal.ended (job_text.put_refusal.spec 𝓛 mem run)
  job-text-put-refusal = record {
    clauses = job_text.put_refusal.clauses 𝓛 mem run;
    of-contract = refl;
    once = λ κs a g r r' v v'. told 𝓤 (λ p q. (search same-value, each-list job_text.put_refusal.ended κs a v v' (search same-value depth 12)));
  }

  pub job-text-tell-refusal : OneResult 𝓛 job_text.tell_refusal.ended (job_text.tell_refusal.spec 𝓛 mem run)
  job-text-tell-refusal = record {
    clauses = job_text.tell_refusal.clauses 𝓛 mem run;
    of-contract = refl;
    once = λ κs a g r r' v v'. told 𝓤 (λ p q. (search same-value, each-list job_text.tell_refusal.ended κs a v v' (search same-value depth 12)));
  }

  pub job-text-used-of : OneResult 𝓛 job_text.used_of.ended (job_text.used_of.spec 𝓛 mem run)
  job-text-used-of = record {
    clauses = job_text.used_of.clauses 𝓛 mem run;
    of-contract = refl;
    once = λ κs a g r r' v v'. told 𝓤 (λ p q. (search same-value, refl));
  }

  -- ---- pack_lines
  pub pack-lines-no-line : OneResult 𝓛 pack_lines.no_line.ended (pack_lines.no_line.spec 𝓛 mem run)
  pack-lines-no-line = record {
    clauses = pack_lines.no_line.clauses 𝓛 mem run;
    of-contract = refl;
    once = λ κs a g r r' v v'. told 𝓤 (λ p q. (search same-value, refl));
  }

  pub pack-lines-pack-part : OneResult 𝓛 pack_lines.pack_part.ended (pack_lines.pack_part.spec 𝓛 mem run)
  pack-lines-pack-part = record {
    clauses = pack_lines.pack_part.clauses 𝓛 mem run;
    of-contract = refl;
    once = λ κs a g r r' v v'. told-in-two 𝓤 (λ p q. (search (same-value, packed-by-parts), each-list pack_lines.pack_part.ended κs a v v' (search same-value depth 12)));
  }

  pub pack-lines-tell-last : OneResult 𝓛 pack_lines.tell_last.ended (pack_lines.tell_last.spec 𝓛 mem run)
  pack-lines-tell-last = record {
    clauses = pack_lines.tell_last.clauses 𝓛 mem run;
    of-contract = refl;
    once = λ κs a g r r' v v'. told 𝓤 (λ p q. (search same-value, each-list pack_lines.tell_last.ended κs a v v' (search same-value depth 12)));
  }

  -- ---- unpack_blocks
  pub unpack-blocks-tell-rest : OneResult 𝓛 unpack_blocks.tell_rest.ended (unpack_blocks.tell_rest.spec 𝓛 mem run)
  unpack-blocks-tell-rest = record {
    clauses = unpack_blocks.tell_rest.clauses 𝓛 mem run;
    of-contract = refl;
    once = λ κs a g r r' v v'. told 𝓤 (λ p q. (search same-value, each-list unpack_blocks.tell_rest.ended κs a v v' (search same-value depth 12)));
  }

  pub unpack-blocks-unpack-part : OneResult 𝓛 unpack_blocks.unpack_part.ended (unpack_blocks.unpack_part.spec 𝓛 mem run)
  unpack-blocks-unpack-part = record {
    clauses = unpack_blocks.unpack_part.clauses 𝓛 mem run;
    of-contract = refl;
    once = λ κs a g r r' v v'. told-in-two 𝓤 (λ p q. (search (same-value, unpacked-by-parts), each-list unpack_blocks.unpack_part.ended κs a v v' (search same-value depth 12)));
  }

  -- ---- report_counts
  pub report-counts-counted : OneResult 𝓛 report_counts.counted.ended (report_counts.counted.spec 𝓛 mem run)
  report-counts-counted = record {
    clauses = report_counts.counted.clauses 𝓛 mem run;
    of-contract = refl;
    once = λ κs a g r r' v v'. told 𝓤 (λ p q. (search same-value, refl));
  }

  pub report-counts-empty : OneResult 𝓛 report_counts.empty.ended (report_counts.empty.spec 𝓛 mem run)
  report-counts-empty = record {
    clauses = report_counts.empty.clauses 𝓛 mem run;
    of-contract = refl;
    once = λ κs a g r r' v v'. told 𝓤 (λ p q. (search same-value, refl));
  }

  pub report-counts-merge : OneResult 𝓛 report_counts.merge.ended (report_counts.merge.spec 𝓛 mem run)
  report-counts-merge = record {
    clauses = report_counts.merge.clauses 𝓛 mem run;
    of-contract = refl;
    once = λ κs a g r r' v v'. told 𝓤 (λ p q. (search same-value, refl));
  }

  pub report-counts-opened : OneResult 𝓛 report_counts.opened.ended (report_counts.opened.spec 𝓛 mem run)
  report-counts-opened = record {
    clauses = report_counts.opened.clauses 𝓛 mem run;
    of-contract = refl;
    once = λ κs a g r r' v v'. told 𝓤 (λ p q. (search same-value, refl));
  }

  -- ---- report_lines
  pub report-lines-write-report : OneResult 𝓛 report_lines.write_report.ended (report_lines.write_report.spec 𝓛 mem run)
  report-lines-write-report = record {
    clauses = report_lines.write_report.clauses 𝓛 mem run;
    of-contract = refl;
    once = λ κs a g r r' v v'. told 𝓤 (λ p q. (search same-value, each-list report_lines.write_report.ended κs a v v' (search same-value depth 12)));
  }

  -- ---- report_batches
  pub report-batches-add-part : OneResult 𝓛 report_batches.add_part.ended (report_batches.add_part.spec 𝓛 mem run)
  report-batches-add-part = record {
    clauses = report_batches.add_part.clauses 𝓛 mem run;
    of-contract = refl;
    once = λ κs a g r r' v v'. told 𝓤 (λ p q. (search same-value, refl));
  }

  pub report-batches-report-batches : OneResult 𝓛 report_batches.report_batches.ended (report_batches.report_batches.spec 𝓛 mem run)
  report-batches-report-batches = record {
    clauses = report_batches.report_batches.clauses 𝓛 mem run;
    of-contract = refl;
    once = λ κs a g r r' v v'. told 𝓤 (λ p q. (search same-value, refl));
  }

  -- ---- route_legs
  pub route-legs-route : OneResult 𝓛 route_legs.route.ended (route_legs.route.spec 𝓛 mem run)
  route-legs-route = record {
    clauses = route_legs.route.clauses 𝓛 mem run;
    of-contract = refl;
    once = λ κs a g r r' v v'. told 𝓤 (λ p q. (search same-value, refl));
  }

  -- ---- route_line
  pub route-line-is-route : OneResult 𝓛 route_line.is_route.ended (route_line.is_route.spec 𝓛 mem run)
  route-line-is-route = record {
    clauses = route_line.is_route.clauses 𝓛 mem run;
    of-contract = refl;
    once = λ κs a g r r' v v'. told 𝓤 (λ p q. (search same-value, refl));
  }

  pub route-line-line-after : OneResult 𝓛 route_line.line_after.ended (route_line.line_after.spec 𝓛 mem run)
  route-line-line-after = record {
    clauses = route_line.line_after.clauses 𝓛 mem run;
    of-contract = refl;
    once = λ κs a g r r' v v'. told 𝓤 (λ p q. (search same-value, refl));
  }

  -- ---- route_read
  pub route-read-next-line : OneResult 𝓛 route_read.next_line.ended (route_read.next_line.spec 𝓛 mem run)
  route-read-next-line = record {
    clauses = route_read.next_line.clauses 𝓛 mem run;
    of-contract = refl;
    once = λ κs a g r r' v v'. told 𝓤 (λ p q. (search same-value, refl));
  }

  pub route-read-no-text : OneResult 𝓛 route_read.no_text.ended (route_read.no_text.spec 𝓛 mem run)
  route-read-no-text = record {
    clauses = route_read.no_text.clauses 𝓛 mem run;
    of-contract = refl;
    once = λ κs a g r r' v v'. told 𝓤 (λ p q. (search same-value, refl));
  }

  pub route-read-read-part : OneResult 𝓛 route_read.read_part.ended (route_read.read_part.spec 𝓛 mem run)
  route-read-read-part = record {
    clauses = route_read.read_part.clauses 𝓛 mem run;
    of-contract = refl;
    once = λ κs a g r r' v v'. told 𝓤 (λ p q. (search same-value, each-list route_read.read_part.ended κs a v v' (search same-value depth 12)));
  }

  -- ---- route_text
  pub route-text-cuts-of : OneResult 𝓛 route_text.cuts_of.ended (route_text.cuts_of.spec 𝓛 mem run)
  route-text-cuts-of = record {
    clauses = route_text.cuts_of.clauses 𝓛 mem run;
    of-contract = refl;
    once = λ κs a g r r' v v'. told 𝓤 (λ p q. (search same-value, refl));
  }

  pub route-text-write-answer : OneResult 𝓛 route_text.write_answer.ended (route_text.write_answer.spec 𝓛 mem run)
  route-text-write-answer = record {
    clauses = route_text.write_answer.clauses 𝓛 mem run;
    of-contract = refl;
    once = λ κs a g r r' v v'. told 𝓤 (λ p q. (search same-value, each-list route_text.write_answer.ended κs a v v' (search same-value depth 12)));
  }

  -- ---- list_calls
  pub list-calls-distance-call : OneResult 𝓛 list_calls.distance_call.ended (list_calls.distance_call.spec 𝓛 mem run)
  list-calls-distance-call = record {
    clauses = list_calls.distance_call.clauses 𝓛 mem run;
    of-contract = refl;
    once = λ κs a g r r' v v'. told 𝓤 (λ p q. (search same-value, each-list list_calls.distance_call.ended κs a v v' (search same-value depth 12)));
  }

  pub list-calls-pose-of : OneResult 𝓛 list_calls.pose_of.ended (list_calls.pose_of.spec 𝓛 mem run)
  list-calls-pose-of = record {
    clauses = list_calls.pose_of.clauses 𝓛 mem run;
    of-contract = refl;
    once = λ κs a g r r' v v'. told 𝓤 (λ p q. (search same-value, refl));
  }

  pub list-calls-put-contact : OneResult 𝓛 list_calls.put_contact.ended (list_calls.put_contact.spec 𝓛 mem run)
  list-calls-put-contact = record {
    clauses = list_calls.put_contact.clauses 𝓛 mem run;
    of-contract = refl;
    once = λ κs a g r r' v v'. told 𝓤 (λ p q. (search same-value, each-list list_calls.put_contact.ended κs a v v' (search same-value depth 12)));
  }

  pub list-calls-sweep-call : OneResult 𝓛 list_calls.sweep_call.ended (list_calls.sweep_call.spec 𝓛 mem run)
  list-calls-sweep-call = record {
    clauses = list_calls.sweep_call.clauses 𝓛 mem run;
    of-contract = refl;
    once = λ κs a g r r' v v'. told 𝓤 (λ p q. (search same-value, each-list list_calls.sweep_call.ended κs a v v' (search same-value depth 12)));
  }

  -- ---- foldflake
  pub foldflake-foldflake-bar : OneResult 𝓛 foldflake.foldflake_bar.ended (foldflake.foldflake_bar.spec 𝓛 mem run)
  foldflake-foldflake-bar = record {
    clauses = foldflake.foldflake_bar.clauses 𝓛 mem run;
    of-contract = refl;
    once = λ κs a g r r' v v'. told 𝓤 (λ p q. (search same-value, each-list foldflake.foldflake_bar.ended κs a v v' (search same-value depth 12)));
  }

  pub foldflake-foldflake-distance : OneResult 𝓛 foldflake.foldflake_distance.ended (foldflake.foldflake_distance.spec 𝓛 mem run)
  foldflake-foldflake-distance = record {
    clauses = foldflake.foldflake_distance.clauses 𝓛 mem run;
    of-contract = refl;
    once = λ κs a g r r' v v'. told 𝓤 (λ p q. (search same-value, each-list foldflake.foldflake_distance.ended κs a v v' (search same-value depth 12)));
  }

  pub foldflake-foldflake-distance64 : OneResult 𝓛 foldflake.foldflake_distance64.ended (foldflake.foldflake_distance64.spec 𝓛 mem run)
  foldflake-foldflake-distance64 = record {
    clauses = foldflake.foldflake_distance64.clauses 𝓛 mem run;
    of-contract = refl;
    once = λ κs a g r r' v v'. told 𝓤 (λ p q. (search same-value, each-list foldflake.foldflake_distance64.ended κs a v v' (search same-value depth 12)));
  }

  pub foldflake-foldflake-gap : OneResult 𝓛 foldflake.foldflake_gap.ended (foldflake.foldflake_gap.spec 𝓛 mem run)
  foldflake-foldflake-gap = record {
    clauses = foldflake.foldflake_gap.clauses 𝓛 mem run;
    of-contract = refl;
    once = λ κs a g r r' v v'. told 𝓤 (λ p q. (search same-value, each-list foldflake.foldflake_gap.ended κs a v v' (search same-value depth 12)));
  }

  pub foldflake-foldflake-line : OneResult 𝓛 foldflake.foldflake_line.ended (foldflake.foldflake_line.spec 𝓛 mem run)
  foldflake-foldflake-line = record {
    clauses = foldflake.foldflake_line.clauses 𝓛 mem run;
    of-contract = refl;
    once = λ κs a g r r' v v'. told 𝓤 (λ p q. (search same-value, each-list foldflake.foldflake_line.ended κs a v v' (search same-value depth 12)));
  }

  pub foldflake-foldflake-placed-bar : OneResult 𝓛 foldflake.foldflake_placed_bar.ended (foldflake.foldflake_placed_bar.spec 𝓛 mem run)
  foldflake-foldflake-placed-bar = record {
    clauses = foldflake.foldflake_placed_bar.clauses 𝓛 mem run;
    of-contract = refl;
    once = λ κs a g r r' v v'. told 𝓤 (λ p q. (search same-value, each-list foldflake.foldflake_placed_bar.ended κs a v v' (search same-value depth 12)));
  }

  pub foldflake-foldflake-placed-plate : OneResult 𝓛 foldflake.foldflake_placed_plate.ended (foldflake.foldflake_placed_plate.spec 𝓛 mem run)
  foldflake-foldflake-placed-plate = record {
    clauses = foldflake.foldflake_placed_plate.clauses 𝓛 mem run;
    of-contract = refl;
    once = λ κs a g r r' v v'. told 𝓤 (λ p q. (search same-value, each-list foldflake.foldflake_placed_plate.ended κs a v v' (search same-value depth 12)));
  }

  pub foldflake-foldflake-plate : OneResult 𝓛 foldflake.foldflake_plate.ended (foldflake.foldflake_plate.spec 𝓛 mem run)
  foldflake-foldflake-plate = record {
    clauses = foldflake.foldflake_plate.clauses 𝓛 mem run;
    of-contract = refl;
    once = λ κs a g r r' v v'. told 𝓤 (λ p q. (search same-value, each-list foldflake.foldflake_plate.ended κs a v v' (search same-value depth 12)));
  }

  pub foldflake-foldflake-pose : OneResult 𝓛 foldflake.foldflake_pose.ended (foldflake.foldflake_pose.spec 𝓛 mem run)
  foldflake-foldflake-pose = record {
    clauses = foldflake.foldflake_pose.clauses 𝓛 mem run;
    of-contract = refl;
    once = λ κs a g r r' v v'. told 𝓤 (λ p q. (search same-value, each-list foldflake.foldflake_pose.ended κs a v v' (search same-value depth 12)));
  }

  pub foldflake-foldflake-root : OneResult 𝓛 foldflake.foldflake_root.ended (foldflake.foldflake_root.spec 𝓛 mem run)
  foldflake-foldflake-root = record {
    clauses = foldflake.foldflake_root.clauses 𝓛 mem run;
    of-contract = refl;
    once = λ κs a g r r' v v'. told 𝓤 (λ p q. (search same-value, refl));
  }

  pub foldflake-foldflake-root64 : OneResult 𝓛 foldflake.foldflake_root64.ended (foldflake.foldflake_root64.spec 𝓛 mem run)
  foldflake-foldflake-root64 = record {
    clauses = foldflake.foldflake_root64.clauses 𝓛 mem run;
    of-contract = refl;
    once = λ κs a g r r' v v'. told 𝓤 (λ p q. (search same-value, refl));
  }

  pub foldflake-foldflake-route : OneResult 𝓛 foldflake.foldflake_route.ended (foldflake.foldflake_route.spec 𝓛 mem run)
  foldflake-foldflake-route = record {
    clauses = foldflake.foldflake_route.clauses 𝓛 mem run;
    of-contract = refl;
    once = λ κs a g r r' v v'. told 𝓤 (λ p q. (search same-value, each-list foldflake.foldflake_route.ended κs a v v' (search same-value depth 12)));
  }

  pub foldflake-foldflake-sweep : OneResult 𝓛 foldflake.foldflake_sweep.ended (foldflake.foldflake_sweep.spec 𝓛 mem run)
  foldflake-foldflake-sweep = record {
    clauses = foldflake.foldflake_sweep.clauses 𝓛 mem run;
    of-contract = refl;
    once = λ κs a g r r' v v'. told 𝓤 (λ p q. (search same-value, each-list foldflake.foldflake_sweep.ended κs a v v' (search same-value depth 12)));
  }

  pub foldflake-foldflake-sweep64 : OneResult 𝓛 foldflake.foldflake_sweep64.ended (foldflake.foldflake_sweep64.spec 𝓛 mem run)
  foldflake-foldflake-sweep64 = record {
    clauses = foldflake.foldflake_sweep64.clauses 𝓛 mem run;
    of-contract = refl;
    once = λ κs a g r r' v v'. told 𝓤 (λ p q. (search same-value, each-list foldflake.foldflake_sweep64.ended κs a v v' (search same-value depth 12)));
  }

  -- ---- clearance_call
  pub clearance-call-refusal-of : OneResult 𝓛 clearance_call.refusal_of.ended (clearance_call.refusal_of.spec 𝓛 mem run)
  clearance-call-refusal-of = record {
    clauses = clearance_call.refusal_of.clauses 𝓛 mem run;
    of-contract = refl;
    once = λ κs a g r r' v v'. told 𝓤 (λ p q. (search same-value, refl));
  }

  -- ---- places
  pub places-place-bits : OneResult 𝓛 places.place_bits.ended (places.place_bits.spec 𝓛 mem run)
  places-place-bits = record {
    clauses = places.place_bits.clauses 𝓛 mem run;
    of-contract = refl;
    once = λ κs a g r r' v v'. told 𝓤 (λ p q. (search same-value, refl));
  }

  -- ---- clearance_lists
  pub clearance-lists-fraction-at : OneResult 𝓛 clearance_lists.fraction_at.ended (clearance_lists.fraction_at.spec 𝓛 mem run)
  clearance-lists-fraction-at = record {
    clauses = clearance_lists.fraction_at.clauses 𝓛 mem run;
    of-contract = refl;
    once = λ κs a g r r' v v'. told 𝓤 (λ p q. (search same-value, refl));
  }

  -- ---- all_clear_search
  pub all-clear-search-write-found : OneResult 𝓛 all_clear_search.write_found.ended (all_clear_search.write_found.spec 𝓛 mem run)
  all-clear-search-write-found = record {
    clauses = all_clear_search.write_found.clauses 𝓛 mem run;
    of-contract = refl;
    once = λ κs a g r r' v v'. told 𝓤 (λ p q. (search same-value, each-list all_clear_search.write_found.ended κs a v v' (search same-value depth 12)));
  }

  -- ---- root64
  pub root64-root : OneResult 𝓛 root64.root.ended (root64.root.spec 𝓛 mem run)
  root64-root = record {
    clauses = root64.root.clauses 𝓛 mem run;
    of-contract = refl;
    once = λ κs a g r r' v v'. told 𝓤 (λ p q. (search same-value, refl));
  }

  -- ---- ground64
  pub ground64-abs : OneResult 𝓛 ground64.abs.ended (ground64.abs.spec 𝓛 mem run)
  ground64-abs = record {
    clauses = ground64.abs.clauses 𝓛 mem run;
    of-contract = refl;
    once = λ κs a g r r' v v'. told 𝓤 (λ p q. (search same-value, refl));
  }

  pub ground64-add : OneResult 𝓛 ground64.add.ended (ground64.add.spec 𝓛 mem run)
  ground64-add = record {
    clauses = ground64.add.clauses 𝓛 mem run;
    of-contract = refl;
    once = λ κs a g r r' v v'. told 𝓤 (λ p q. (search same-value, refl));
  }

  pub ground64-distance : OneResult 𝓛 ground64.distance.ended (ground64.distance.spec 𝓛 mem run)
  ground64-distance = record {
    clauses = ground64.distance.clauses 𝓛 mem run;
    of-contract = refl;
    once = λ κs a g r r' v v'. told 𝓤 (λ p q. (search same-value, refl));
  }

  pub ground64-dot : OneResult 𝓛 ground64.dot.ended (ground64.dot.spec 𝓛 mem run)
  ground64-dot = record {
    clauses = ground64.dot.clauses 𝓛 mem run;
    of-contract = refl;
    once = λ κs a g r r' v v'. told 𝓤 (λ p q. (search same-value, refl));
  }

  pub ground64-from-bits : OneResult 𝓛 ground64.from_bits.ended (ground64.from_bits.spec 𝓛 mem run)
  ground64-from-bits = record {
    clauses = ground64.from_bits.clauses 𝓛 mem run;
    of-contract = refl;
    once = λ κs a g r r' v v'. told 𝓤 (λ p q. (search same-value, refl));
  }

  pub ground64-inv-mul : OneResult 𝓛 ground64.inv_mul.ended (ground64.inv_mul.spec 𝓛 mem run)
  ground64-inv-mul = record {
    clauses = ground64.inv_mul.clauses 𝓛 mem run;
    of-contract = refl;
    once = λ κs a g r r' v v'. told 𝓤 (λ p q. (search same-value, refl));
  }

  pub ground64-inv-rotate-vec : OneResult 𝓛 ground64.inv_rotate_vec.ended (ground64.inv_rotate_vec.spec 𝓛 mem run)
  ground64-inv-rotate-vec = record {
    clauses = ground64.inv_rotate_vec.clauses 𝓛 mem run;
    of-contract = refl;
    once = λ κs a g r r' v v'. told 𝓤 (λ p q. (search same-value, refl));
  }

  pub ground64-length : OneResult 𝓛 ground64.length.ended (ground64.length.spec 𝓛 mem run)
  ground64-length = record {
    clauses = ground64.length.clauses 𝓛 mem run;
    of-contract = refl;
    once = λ κs a g r r' v v'. told 𝓤 (λ p q. (search same-value, refl));
  }

  pub ground64-lerp : OneResult 𝓛 ground64.lerp.ended (ground64.lerp.spec 𝓛 mem run)
  ground64-lerp = record {
    clauses = ground64.lerp.clauses 𝓛 mem run;
    of-contract = refl;
    once = λ κs a g r r' v v'. told 𝓤 (λ p q. (search same-value, refl));
  }

  pub ground64-max : OneResult 𝓛 ground64.max.ended (ground64.max.spec 𝓛 mem run)
  ground64-max = record {
    clauses = ground64.max.clauses 𝓛 mem run;
    of-contract = refl;
    once = λ κs a g r r' v v'. told 𝓤 (λ p q. (search same-value, refl));
  }

  pub ground64-neg : OneResult 𝓛 ground64.neg.ended (ground64.neg.spec 𝓛 mem run)
  ground64-neg = record {
    clauses = ground64.neg.clauses 𝓛 mem run;
    of-contract = refl;
    once = λ κs a g r r' v v'. told 𝓤 (λ p q. (search same-value, refl));
  }

  pub ground64-nlerp : OneResult 𝓛 ground64.nlerp.ended (ground64.nlerp.spec 𝓛 mem run)
  ground64-nlerp = record {
    clauses = ground64.nlerp.clauses 𝓛 mem run;
    of-contract = refl;
    once = λ κs a g r r' v v'. told 𝓤 (λ p q. (search same-value, refl));
  }

  pub ground64-normalize-or-zero : OneResult 𝓛 ground64.normalize_or_zero.ended (ground64.normalize_or_zero.spec 𝓛 mem run)
  ground64-normalize-or-zero = record {
    clauses = ground64.normalize_or_zero.clauses 𝓛 mem run;
    of-contract = refl;
    once = λ κs a g r r' v v'. told 𝓤 (λ p q. (search same-value, refl));
  }

  pub ground64-perp-dot : OneResult 𝓛 ground64.perp_dot.ended (ground64.perp_dot.spec 𝓛 mem run)
  ground64-perp-dot = record {
    clauses = ground64.perp_dot.clauses 𝓛 mem run;
    of-contract = refl;
    once = λ κs a g r r' v v'. told 𝓤 (λ p q. (search same-value, refl));
  }

  pub ground64-rotate-vec : OneResult 𝓛 ground64.rotate_vec.ended (ground64.rotate_vec.spec 𝓛 mem run)
  ground64-rotate-vec = record {
    clauses = ground64.rotate_vec.clauses 𝓛 mem run;
    of-contract = refl;
    once = λ κs a g r r' v v'. told 𝓤 (λ p q. (search same-value, refl));
  }

  pub ground64-scale : OneResult 𝓛 ground64.scale.ended (ground64.scale.spec 𝓛 mem run)
  ground64-scale = record {
    clauses = ground64.scale.clauses 𝓛 mem run;
    of-contract = refl;
    once = λ κs a g r r' v v'. told 𝓤 (λ p q. (search same-value, refl));
  }

  pub ground64-sub : OneResult 𝓛 ground64.sub.ended (ground64.sub.spec 𝓛 mem run)
  ground64-sub = record {
    clauses = ground64.sub.clauses 𝓛 mem run;
    of-contract = refl;
    once = λ κs a g r r' v v'. told 𝓤 (λ p q. (search same-value, refl));
  }

  pub ground64-to-bits : OneResult 𝓛 ground64.to_bits.ended (ground64.to_bits.spec 𝓛 mem run)
  ground64-to-bits = record {
    clauses = ground64.to_bits.clauses 𝓛 mem run;
    of-contract = refl;
    once = λ κs a g r r' v v'. told 𝓤 (λ p q. (search same-value, refl));
  }

  pub ground64-transform-point : OneResult 𝓛 ground64.transform_point.ended (ground64.transform_point.spec 𝓛 mem run)
  ground64-transform-point = record {
    clauses = ground64.transform_point.clauses 𝓛 mem run;
    of-contract = refl;
    once = λ κs a g r r' v v'. told 𝓤 (λ p q. (search same-value, refl));
  }

  -- ---- domain64
  pub domain64-bad-vector : OneResult 𝓛 domain64.bad_vector.ended (domain64.bad_vector.spec 𝓛 mem run)
  domain64-bad-vector = record {
    clauses = domain64.bad_vector.clauses 𝓛 mem run;
    of-contract = refl;
    once = λ κs a g r r' v v'. told 𝓤 (λ p q. (search same-value, refl));
  }

  pub domain64-check-cache : OneResult 𝓛 domain64.check_cache.ended (domain64.check_cache.spec 𝓛 mem run)
  domain64-check-cache = record {
    clauses = domain64.check_cache.clauses 𝓛 mem run;
    of-contract = refl;
    once = λ κs a g r r' v v'. told 𝓤 (λ p q. (search same-value, refl));
  }

  pub domain64-check-fraction : OneResult 𝓛 domain64.check_fraction.ended (domain64.check_fraction.spec 𝓛 mem run)
  domain64-check-fraction = record {
    clauses = domain64.check_fraction.clauses 𝓛 mem run;
    of-contract = refl;
    once = λ κs a g r r' v v'. told 𝓤 (λ p q. (search same-value, refl));
  }

  pub domain64-check-outline : OneResult 𝓛 domain64.check_outline.ended (domain64.check_outline.spec 𝓛 mem run)
  domain64-check-outline = record {
    clauses = domain64.check_outline.clauses 𝓛 mem run;
    of-contract = refl;
    once = λ κs a g r r' v v'. told 𝓤 (λ p q. (search same-value, refl));
  }

  pub domain64-check-pair : OneResult 𝓛 domain64.check_pair.ended (domain64.check_pair.spec 𝓛 mem run)
  domain64-check-pair = record {
    clauses = domain64.check_pair.clauses 𝓛 mem run;
    of-contract = refl;
    once = λ κs a g r r' v v'. told 𝓤 (λ p q. (search same-value, refl));
  }

  pub domain64-check-pose : OneResult 𝓛 domain64.check_pose.ended (domain64.check_pose.spec 𝓛 mem run)
  domain64-check-pose = record {
    clauses = domain64.check_pose.clauses 𝓛 mem run;
    of-contract = refl;
    once = λ κs a g r r' v v'. told 𝓤 (λ p q. (search same-value, refl));
  }

  pub domain64-check-slop : OneResult 𝓛 domain64.check_slop.ended (domain64.check_slop.spec 𝓛 mem run)
  domain64-check-slop = record {
    clauses = domain64.check_slop.clauses 𝓛 mem run;
    of-contract = refl;
    once = λ κs a g r r' v v'. told 𝓤 (λ p q. (search same-value, refl));
  }

  pub domain64-check-sweeps : OneResult 𝓛 domain64.check_sweeps.ended (domain64.check_sweeps.spec 𝓛 mem run)
  domain64-check-sweeps = record {
    clauses = domain64.check_sweeps.clauses 𝓛 mem run;
    of-contract = refl;
    once = λ κs a g r r' v v'. told 𝓤 (λ p q. (search same-value, refl));
  }

  pub domain64-pose-refusal : OneResult 𝓛 domain64.pose_refusal.ended (domain64.pose_refusal.spec 𝓛 mem run)
  domain64-pose-refusal = record {
    clauses = domain64.pose_refusal.clauses 𝓛 mem run;
    of-contract = refl;
    once = λ κs a g r r' v v'. told 𝓤 (λ p q. (search same-value, refl));
  }

  pub domain64-refusal : OneResult 𝓛 domain64.refusal.ended (domain64.refusal.spec 𝓛 mem run)
  domain64-refusal = record {
    clauses = domain64.refusal.clauses 𝓛 mem run;
    of-contract = refl;
    once = λ κs a g r r' v v'. told 𝓤 (λ p q. (search same-value, refl));
  }

  -- ---- outline64
  pub outline64-point : OneResult 𝓛 outline64.point.ended (outline64.point.spec 𝓛 mem run)
  outline64-point = record {
    clauses = outline64.point.clauses 𝓛 mem run;
    of-contract = refl;
    once = λ κs a g r r' v v'. told 𝓤 (λ p q. (search same-value, refl));
  }

  pub outline64-support : OneResult 𝓛 outline64.support.ended (outline64.support.spec 𝓛 mem run)
  outline64-support = record {
    clauses = outline64.support.clauses 𝓛 mem run;
    of-contract = refl;
    once = λ κs a g r r' v v'. told 𝓤 (λ p q. (search same-value, refl));
  }

  pub outline64-support-index : OneResult 𝓛 outline64.support_index.ended (outline64.support_index.spec 𝓛 mem run)
  outline64-support-index = record {
    clauses = outline64.support_index.clauses 𝓛 mem run;
    of-contract = refl;
    once = λ κs a g r r' v v'. told 𝓤 (λ p q. (search same-value, refl));
  }

  pub outline64-support-pair : OneResult 𝓛 outline64.support_pair.ended (outline64.support_pair.spec 𝓛 mem run)
  outline64-support-pair = record {
    clauses = outline64.support_pair.clauses 𝓛 mem run;
    of-contract = refl;
    once = λ κs a g r r' v v'. told 𝓤 (λ p q. (search same-value, refl));
  }

  -- ---- simplex64
  pub simplex64-solve : OneResult 𝓛 simplex64.solve.ended (simplex64.solve.spec 𝓛 mem run)
  simplex64-solve = record {
    clauses = simplex64.solve.clauses 𝓛 mem run;
    of-contract = refl;
    once = λ κs a g r r' v v'. told 𝓤 (λ p q. (search same-value, refl));
  }

  pub simplex64-solve-simplex2 : OneResult 𝓛 simplex64.solve_simplex2.ended (simplex64.solve_simplex2.spec 𝓛 mem run)
  simplex64-solve-simplex2 = record {
    clauses = simplex64.solve_simplex2.clauses 𝓛 mem run;
    of-contract = refl;
    once = λ κs a g r r' v v'. told 𝓤 (λ p q. (search same-value, refl));
  }

  pub simplex64-solve-simplex3 : OneResult 𝓛 simplex64.solve_simplex3.ended (simplex64.solve_simplex3.spec 𝓛 mem run)
  simplex64-solve-simplex3 = record {
    clauses = simplex64.solve_simplex3.clauses 𝓛 mem run;
    of-contract = refl;
    once = λ κs a g r r' v v'. told 𝓤 (λ p q. (search same-value, refl));
  }

  pub simplex64-witness-points : OneResult 𝓛 simplex64.witness_points.ended (simplex64.witness_points.spec 𝓛 mem run)
  simplex64-witness-points = record {
    clauses = simplex64.witness_points.clauses 𝓛 mem run;
    of-contract = refl;
    once = λ κs a g r r' v v'. told 𝓤 (λ p q. (search same-value, refl));
  }

  -- ---- distance64
  pub distance64-proxy-distance-measure : OneResult 𝓛 distance64.proxy_distance.measure.ended (distance64.proxy_distance.measure.spec 𝓛 mem run)
  distance64-proxy-distance-measure = record {
    clauses = distance64.proxy_distance.measure.clauses 𝓛 mem run;
    of-contract = refl;
    once = λ κs a g r r' v v'. told 𝓤 (λ p q. (search same-value, refl));
  }

  pub distance64-proxy-distance-proxy-distance : OneResult 𝓛 distance64.proxy_distance.proxy_distance.ended (distance64.proxy_distance.proxy_distance.spec 𝓛 mem run)
  distance64-proxy-distance-proxy-distance = record {
    clauses = distance64.proxy_distance.proxy_distance.clauses 𝓛 mem run;
    of-contract = refl;
    once = λ κs a g r r' v v'. told 𝓤 (λ p q. (search same-value, refl));
  }

  -- ---- separation64
  pub separation64-end-a : OneResult 𝓛 separation64.end_a.ended (separation64.end_a.spec 𝓛 mem run)
  separation64-end-a = record {
    clauses = separation64.end_a.clauses 𝓛 mem run;
    of-contract = refl;
    once = λ κs a g r r' v v'. told 𝓤 (λ p q. (search same-value, refl));
  }

  pub separation64-end-b : OneResult 𝓛 separation64.end_b.ended (separation64.end_b.spec 𝓛 mem run)
  separation64-end-b = record {
    clauses = separation64.end_b.clauses 𝓛 mem run;
    of-contract = refl;
    once = λ κs a g r r' v v'. told 𝓤 (λ p q. (search same-value, refl));
  }

  pub separation64-evaluate : OneResult 𝓛 separation64.evaluate.ended (separation64.evaluate.spec 𝓛 mem run)
  separation64-evaluate = record {
    clauses = separation64.evaluate.clauses 𝓛 mem run;
    of-contract = refl;
    once = λ κs a g r r' v v'. told 𝓤 (λ p q. (search same-value, refl));
  }

  pub separation64-find-min-separation : OneResult 𝓛 separation64.find_min_separation.ended (separation64.find_min_separation.spec 𝓛 mem run)
  separation64-find-min-separation = record {
    clauses = separation64.find_min_separation.clauses 𝓛 mem run;
    of-contract = refl;
    once = λ κs a g r r' v v'. told 𝓤 (λ p q. (search same-value, refl));
  }

  pub separation64-new-separation : OneResult 𝓛 separation64.new_separation.ended (separation64.new_separation.spec 𝓛 mem run)
  separation64-new-separation = record {
    clauses = separation64.new_separation.clauses 𝓛 mem run;
    of-contract = refl;
    once = λ κs a g r r' v v'. told 𝓤 (λ p q. (search same-value, refl));
  }

  pub separation64-shifted : OneResult 𝓛 separation64.shifted.ended (separation64.shifted.spec 𝓛 mem run)
  separation64-shifted = record {
    clauses = separation64.shifted.clauses 𝓛 mem run;
    of-contract = refl;
    once = λ κs a g r r' v v'. told 𝓤 (λ p q. (search same-value, refl));
  }

  pub separation64-transform-at : OneResult 𝓛 separation64.transform_at.ended (separation64.transform_at.spec 𝓛 mem run)
  separation64-transform-at = record {
    clauses = separation64.transform_at.clauses 𝓛 mem run;
    of-contract = refl;
    once = λ κs a g r r' v v'. told 𝓤 (λ p q. (search same-value, refl));
  }

  -- ---- sweep_toi64
  pub sweep-toi64-advance : OneResult 𝓛 sweep_toi64.advance.ended (sweep_toi64.advance.spec 𝓛 mem run)
  sweep-toi64-advance = record {
    clauses = sweep_toi64.advance.clauses 𝓛 mem run;
    of-contract = refl;
    once = λ κs a g r r' v v'. told 𝓤 (λ p q. (search same-value, refl));
  }

  pub sweep-toi64-sweep-time-of-impact : OneResult 𝓛 sweep_toi64.sweep_time_of_impact.ended (sweep_toi64.sweep_time_of_impact.spec 𝓛 mem run)
  sweep-toi64-sweep-time-of-impact = record {
    clauses = sweep_toi64.sweep_time_of_impact.clauses 𝓛 mem run;
    of-contract = refl;
    once = λ κs a g r r' v v'. told 𝓤 (λ p q. (search same-value, refl));
  }

  -- ---- toi_proxy64
  pub toi-proxy64-new : OneResult 𝓛 toi_proxy64.new.ended (toi_proxy64.new.spec 𝓛 mem run)
  toi-proxy64-new = record {
    clauses = toi_proxy64.new.clauses 𝓛 mem run;
    of-contract = refl;
    once = λ κs a g r r' v v'. told 𝓤 (λ p q. (search (same-value, toi-proxy64-by-parts), refl));
  }

  pub toi-proxy64-points : OneResult 𝓛 toi_proxy64.points.ended (toi_proxy64.points.spec 𝓛 mem run)
  toi-proxy64-points = record {
    clauses = toi_proxy64.points.clauses 𝓛 mem run;
    of-contract = refl;
    once = λ κs a g r r' v v'. told 𝓤 (λ p q. (search same-value, refl));
  }

  pub toi-proxy64-proxy-distance : OneResult 𝓛 toi_proxy64.proxy_distance.ended (toi_proxy64.proxy_distance.spec 𝓛 mem run)
  toi-proxy64-proxy-distance = record {
    clauses = toi_proxy64.proxy_distance.clauses 𝓛 mem run;
    of-contract = refl;
    once = λ κs a g r r' v v'. told 𝓤 (λ p q. (search same-value, refl));
  }

  pub toi-proxy64-radius : OneResult 𝓛 toi_proxy64.radius.ended (toi_proxy64.radius.spec 𝓛 mem run)
  toi-proxy64-radius = record {
    clauses = toi_proxy64.radius.clauses 𝓛 mem run;
    of-contract = refl;
    once = λ κs a g r r' v v'. told 𝓤 (λ p q. (search same-value, refl));
  }

  pub toi-proxy64-support : OneResult 𝓛 toi_proxy64.support.ended (toi_proxy64.support.spec 𝓛 mem run)
  toi-proxy64-support = record {
    clauses = toi_proxy64.support.clauses 𝓛 mem run;
    of-contract = refl;
    once = λ κs a g r r' v v'. told 𝓤 (λ p q. (search same-value, refl));
  }

  pub toi-proxy64-support-points : OneResult 𝓛 toi_proxy64.support_points.ended (toi_proxy64.support_points.spec 𝓛 mem run)
  toi-proxy64-support-points = record {
    clauses = toi_proxy64.support_points.clauses 𝓛 mem run;
    of-contract = refl;
    once = λ κs a g r r' v v'. told 𝓤 (λ p q. (search same-value, refl));
  }

  pub toi-proxy64-sweep-time-of-impact : OneResult 𝓛 toi_proxy64.sweep_time_of_impact.ended (toi_proxy64.sweep_time_of_impact.spec 𝓛 mem run)
  toi-proxy64-sweep-time-of-impact = record {
    clauses = toi_proxy64.sweep_time_of_impact.clauses 𝓛 mem run;
    of-contract = refl;
    once = λ κs a g r r' v v'. told 𝓤 (λ p q. (search same-value, refl));
  }

  -- ---- sweep_numbers64
  pub sweep-numbers64-move-at : OneResult 𝓛 sweep_numbers64.move_at.ended (sweep_numbers64.move_at.spec 𝓛 mem run)
  sweep-numbers64-move-at = record {
    clauses = sweep_numbers64.move_at.clauses 𝓛 mem run;
    of-contract = refl;
    once = λ κs a g r r' v v'. told 𝓤 (λ p q. (search same-value, refl));
  }

  pub sweep-numbers64-move-of : OneResult 𝓛 sweep_numbers64.move_of.ended (sweep_numbers64.move_of.spec 𝓛 mem run)
  sweep-numbers64-move-of = record {
    clauses = sweep_numbers64.move_of.clauses 𝓛 mem run;
    of-contract = refl;
    once = λ κs a g r r' v v'. told 𝓤 (λ p q. (search same-value, refl));
  }

  pub sweep-numbers64-sweep-of : OneResult 𝓛 sweep_numbers64.sweep_of.ended (sweep_numbers64.sweep_of.spec 𝓛 mem run)
  sweep-numbers64-sweep-of = record {
    clauses = sweep_numbers64.sweep_of.clauses 𝓛 mem run;
    of-contract = refl;
    once = λ κs a g r r' v v'. told 𝓤 (λ p q. (search same-value, refl));
  }

  pub sweep-numbers64-told : OneResult 𝓛 sweep_numbers64.told.ended (sweep_numbers64.told.spec 𝓛 mem run)
  sweep-numbers64-told = record {
    clauses = sweep_numbers64.told.clauses 𝓛 mem run;
    of-contract = refl;
    once = λ κs a g r r' v v'. told 𝓤 (λ p q. (search same-value, refl));
  }

  pub sweep-numbers64-told-by : OneResult 𝓛 sweep_numbers64.told_by.ended (sweep_numbers64.told_by.spec 𝓛 mem run)
  sweep-numbers64-told-by = record {
    clauses = sweep_numbers64.told_by.clauses 𝓛 mem run;
    of-contract = refl;
    once = λ κs a g r r' v v'. told 𝓤 (λ p q. (search same-value, refl));
  }

  pub sweep-numbers64-turn : OneResult 𝓛 sweep_numbers64.turn.ended (sweep_numbers64.turn.spec 𝓛 mem run)
  sweep-numbers64-turn = record {
    clauses = sweep_numbers64.turn.clauses 𝓛 mem run;
    of-contract = refl;
    once = λ κs a g r r' v v'. told 𝓤 (λ p q. (search same-value, refl));
  }

  -- ---- work64
  pub work64-answer-block : OneResult 𝓛 work64.answer_block.ended (work64.answer_block.spec 𝓛 mem run)
  work64-answer-block = record {
    clauses = work64.answer_block.clauses 𝓛 mem run;
    of-contract = refl;
    once = λ κs a g r r' v v'. told 𝓤 (λ p q. (search same-value, refl));
  }

  -- ---- fields64
  pub fields64-letter-of : OneResult 𝓛 fields64.letter_of.ended (fields64.letter_of.spec 𝓛 mem run)
  fields64-letter-of = record {
    clauses = fields64.letter_of.clauses 𝓛 mem run;
    of-contract = refl;
    once = λ κs a g r r' v v'. told 𝓤 (λ p q. (search same-value, refl));
  }

  pub fields64-put-contact : OneResult 𝓛 fields64.put_contact.ended (fields64.put_contact.spec 𝓛 mem run)
  fields64-put-contact = record {
    clauses = fields64.put_contact.clauses 𝓛 mem run;
    of-contract = refl;
    once = λ κs a g r r' v v'. told 𝓤 (λ p q. (search same-value, each-list fields64.put_contact.ended κs a v v' (search same-value depth 12)));
  }

  -- ---- sheet_lines64
  pub sheet-lines64-write-line : OneResult 𝓛 sheet_lines64.write_line.ended (sheet_lines64.write_line.spec 𝓛 mem run)
  sheet-lines64-write-line = record {
    clauses = sheet_lines64.write_line.clauses 𝓛 mem run;
    of-contract = refl;
    once = λ κs a g r r' v v'. told 𝓤 (λ p q. (search same-value, each-list sheet_lines64.write_line.ended κs a v v' (search same-value depth 12)));
  }

  pub sheet-lines64-write-part : OneResult 𝓛 sheet_lines64.write_part.ended (sheet_lines64.write_part.spec 𝓛 mem run)
  sheet-lines64-write-part = record {
    clauses = sheet_lines64.write_part.clauses 𝓛 mem run;
    of-contract = refl;
    once = λ κs a g r r' v v'. told-in-two 𝓤 (λ p q. (search (same-value, written64-by-parts), each-list sheet_lines64.write_part.ended κs a v v' (search same-value depth 12)));
  }

  -- ---- list_calls64
  pub list-calls64-distance-call : OneResult 𝓛 list_calls64.distance_call.ended (list_calls64.distance_call.spec 𝓛 mem run)
  list-calls64-distance-call = record {
    clauses = list_calls64.distance_call.clauses 𝓛 mem run;
    of-contract = refl;
    once = λ κs a g r r' v v'. told 𝓤 (λ p q. (search same-value, each-list list_calls64.distance_call.ended κs a v v' (search same-value depth 12)));
  }

  pub list-calls64-pose-of : OneResult 𝓛 list_calls64.pose_of.ended (list_calls64.pose_of.spec 𝓛 mem run)
  list-calls64-pose-of = record {
    clauses = list_calls64.pose_of.clauses 𝓛 mem run;
    of-contract = refl;
    once = λ κs a g r r' v v'. told 𝓤 (λ p q. (search same-value, refl));
  }

  pub list-calls64-put-contact : OneResult 𝓛 list_calls64.put_contact.ended (list_calls64.put_contact.spec 𝓛 mem run)
  list-calls64-put-contact = record {
    clauses = list_calls64.put_contact.clauses 𝓛 mem run;
    of-contract = refl;
    once = λ κs a g r r' v v'. told 𝓤 (λ p q. (search same-value, each-list list_calls64.put_contact.ended κs a v v' (search same-value depth 12)));
  }

  pub list-calls64-sweep-call : OneResult 𝓛 list_calls64.sweep_call.ended (list_calls64.sweep_call.spec 𝓛 mem run)
  list-calls64-sweep-call = record {
    clauses = list_calls64.sweep_call.clauses 𝓛 mem run;
    of-contract = refl;
    once = λ κs a g r r' v v'. told 𝓤 (λ p q. (search same-value, each-list list_calls64.sweep_call.ended κs a v v' (search same-value depth 12)));
  }
