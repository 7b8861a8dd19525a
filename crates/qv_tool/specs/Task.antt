-- What a command asks for, of the forms that are served.
use Rattle.std.specs.Prelude.{ℕ, List, ◌++◌, codes, Option, Some, None, option_map}
use Rattle.qcc_front.specs.Job.{Job, single_unit}
use Rattle.qv_words.specs.Names.{stem_of}
use Rattle.qv_words.specs.Words.{Command, BuildArgs, CompileArgs, Qcc, Q3asm, Qdis, Qrun, Qall}

pub data Task : Type 0 where
  -- compile units: the folder of their texts, the job
  Compile : List ℕ → Job → Task
  -- link assembly files: the image, the files
  Assemble : List ℕ → List (List ℕ) → Task
  -- link the files that a list names: the image, the list
  AssembleList : List ℕ → List ℕ → Task
  -- write an image as assembly: the image, the file
  Disassemble : List ℕ → List ℕ → Task
  -- call an image's vmMain: the most steps of a call, the words of each call, the image
  Run : ℕ → List (List ℕ) → List ℕ → Task
  -- compile, link and call: the most steps of a call, the words of each call, the image, the job
  Build : ℕ → List (List ℕ) → List ℕ → Job → Task

-- a job of one unit and no binds is served
abbrev pub served : Job → Option Job
served job = option_map (λ _. job) (single_unit job)

abbrev pub compile_job : CompileArgs → Job
compile_job args = record { units = args.units; dirs = args.dirs; defs = args.defs; binds = args.binds }

abbrev pub build_job : BuildArgs → Job
build_job args = record { units = args.units; dirs = args.dirs; defs = args.defs; binds = args.binds }

-- link the files, or those that a list names
abbrev pub link_task : List ℕ → List (List ℕ) → Option (List ℕ) → Task
link_task image files None = Assemble image files
link_task image files (Some list) = AssembleList image list

-- build a program that isn't made from a seed
abbrev pub build_task : BuildArgs → Option (ℕ × ℕ) → Option Task
build_task args None = option_map (Build args.steps args.calls args.image) (served (build_job args))
build_task args (Some seed_size) = None

-- what the command asks for, where its form is served
abbrev pub task_of : Command → Option Task
task_of (Qcc args) = option_map (Compile args.folder) (served (compile_job args))
task_of (Q3asm args) = Some (link_task args.image args.files args.list)
task_of (Qdis args) = Some (Disassemble args.image args.file)
task_of (Qrun args) = Some (Run args.steps args.calls args.image)
task_of (Qall args) = build_task args args.seed_size

-- the text of a unit stands in the folder under the unit's stem
abbrev pub text_name : List ℕ → List ℕ → List ℕ
text_name folder unit = folder ++ codes "/" ++ stem_of unit ++ codes ".asm"
