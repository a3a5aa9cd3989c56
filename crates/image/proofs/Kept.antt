-- A block's bytes: how many, and that the block is read of them, whatever stands behind. Assumes nothing.
use mathlib.Core.Path.{◌≡◌, refl, ap, ap₂, ◌∙◌}
use mathlib.Core.Bool.{Bool, true, false, not}
use mathlib.Core.List.{List, [], ◌++◌}
use Prim.Native.Nat.{ℕ, suc, ◌+◌}
use lib.Dec.{eqb}
use lib.ListN.{length}
use Rattle.std.specs.Prelude.{Option, None, Some}
use Rattle.laws.specs.Words.{digit}
use Rattle.rules.specs.Table.{most}
use Rattle.table.specs.declared.Task.{Task}
use Rattle.table.specs.declared.TaskNo.{TaskNo}
use Rattle.jobs.specs.declared.Job.{Job}
use Rattle.jobs.specs.declared.Tasks.{Tasks}
use Rattle.lists.specs.declared.Stored.{Stored}
use Rattle.lists.specs.Answers.{stored_of, lists_of}
use Rattle.kernel.specs.declared.Block.{Block}
use Rattle.image.specs.Bytes.{task_bytes, tasks_bytes, last_bytes, job_bytes, who_bytes, task_no_bytes, stored_bytes, bytes_of}
use Rattle.image.specs.Bytes.{task_from, tasks_from, last_from, job_from, who_from, task_no_from, stored_from, block_in, tasks_size, stored_size, size}
use Rattle.image.specs.Bytes.{TaskFits, TasksFit, LastFits, JobFits, WhoFits, TaskNoFits, StoredFits, Fits}
use Rattle.image.proofs.Putting.{little_length}
use Rattle.image.proofs.Standing.{Stands, stands_between, Codec, then, array, word_codec, long_word_codec}

-- ---- the parts

task_codec : Codec TaskFits task_bytes task_from 12
task_codec =
    let three = then (then word_codec word_codec) word_codec in
    record {
      long = λ x f. three.long ((x.c, x.d), x.t) ((f.0, f.1), f.2);
      kept = λ x f s at h. ap (λ (p : (ℕ × ℕ) × ℕ). record { c = p.0.0; d = p.0.1; t = p.1 }) (three.kept ((x.c, x.d), x.t) ((f.0, f.1), f.2) s at h);
    }

last_long : (x : Option ℕ) → length (last_bytes x) ≡ 9
last_long None = ap suc (little_length 8 0)
last_long (Some time) = ap suc (little_length 8 time)

last_kept : (x : Option ℕ) → LastFits x → (s : List ℕ) (at : ℕ) → Stands s at (last_bytes x) → last_from s at ≡ x
last_kept None f s at h = rw h.0
last_kept (Some time) f s at h = rw h.0 (ap Some (long_word_codec.kept time f s (at + 1) h.1))

says_digit : (b : Bool) → not (eqb (digit b) 0) ≡ b
says_digit true = refl
says_digit false = refl

job_codec : Codec JobFits job_bytes job_from 10
job_codec =
    record {
      long = λ x f. ap suc (last_long x.last);
      kept =
          λ x f s at h. ap₂ (λ (u : Bool) (v : Option ℕ). record { active = u; last = v })
          (ap (λ (k : ℕ). not (eqb k 0)) h.0 ∙ says_digit x.active) (last_kept x.last f s (at + 1) h.1);
    }

who_long : (x : Option TaskNo) → length (who_bytes x) ≡ 2
who_long None = refl
who_long (Some k) = refl

who_kept : (x : Option TaskNo) → WhoFits x → (s : List ℕ) (at : ℕ) → Stands s at (who_bytes x) → who_from s at ≡ x
who_kept None f s at h = rw h.0
who_kept (Some k) f s at h = rw h.0 (ap (λ (n : ℕ). Some (record { 0 = n })) h.1.0)

who_codec : Codec WhoFits who_bytes who_from 2
who_codec = record { long = λ x f. who_long x; kept = who_kept }

task_no_codec : Codec TaskNoFits task_no_bytes task_no_from 1
task_no_codec = record { long = λ k f. refl; kept = λ k f s at h. ap (λ (n : ℕ). record { 0 = n }) h.0 }

tasks_codec : Codec TasksFit tasks_bytes tasks_from tasks_size
tasks_codec =
    let three = then (then long_word_codec (array task_codec most)) (array word_codec most) in
    record {
      long = λ x f. three.long ((x.table.count, x.table.tasks), x.rising) ((f.count, f.tasks), f.rising);
      kept =
          λ x f s at h. ap (λ (p : (ℕ × List Task) × List ℕ). record { table = record { count = p.0.0; tasks = p.0.1 }; rising = p.1 })
          (three.kept ((x.table.count, x.table.tasks), x.rising) ((f.count, f.tasks), f.rising) s at h);
    }

stored_codec : Codec StoredFits stored_bytes stored_from stored_size
stored_codec =
    let places = array task_no_codec (most + 1) in
    let four = then (then (then places places) places) long_word_codec in
    record {
      long = λ x f. four.long (((x.first, x.last), x.next), x.map) (((f.first, f.last), f.next), f.map);
      kept =
          λ x f s at h. ap (λ (p : ((List TaskNo × List TaskNo) × List TaskNo) × ℕ). record { first = p.0.0.0; last = p.0.0.1; next = p.0.1; map = p.1 })
          (four.kept (((x.first, x.last), x.next), x.map) (((f.first, f.last), f.next), f.map) s at h);
    }

-- ---- the block

abbrev Parts : Type 0
Parts = ((Tasks × List Job) × (Option TaskNo × Stored)) × (ℕ × ℕ)

kept : (b : Block) → Fits b → (length (bytes_of b) ≡ size) × ((s : List ℕ) → Stands s 0 (bytes_of b) → block_in s ≡ b)
unfolding bytes_of block_in
kept b f =
    let all = then (then (then tasks_codec (array job_codec (most + 1))) (then who_codec stored_codec)) (then long_word_codec word_codec) in
    let parts : Parts = (((b.tasks, b.jobs), (b.ready.running, stored_of b.ready.lists)), (b.now.clock, b.now.reading)) in (
      all.long parts (((f.tasks, f.jobs), (f.running, f.stored)), (f.clock, f.reading)),
      λ s h. ap (λ (p : Parts). record {
        tasks = p.0.0.0;
        jobs = p.0.0.1;
        ready = record { running = p.0.1.0; lists = lists_of p.0.1.1 };
        now = record { clock = p.1.0; reading = p.1.1 };
      }) (all.kept parts (((f.tasks, f.jobs), (f.running, f.stored)), (f.clock, f.reading)) s 0 h),
    )

pub bytes_length : (b : Block) → Fits b → length (bytes_of b) ≡ size
bytes_length b f = (kept b f).0

pub block_kept : (b : Block) → Fits b → (behind : List ℕ) → block_in (bytes_of b ++ behind) ≡ b
block_kept b f behind = (kept b f).1 (bytes_of b ++ behind) (stands_between [] (bytes_of b) behind)
