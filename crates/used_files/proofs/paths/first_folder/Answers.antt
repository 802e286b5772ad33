use Rattle.used_files.proofs.Texts.{folder_found, folder_shorter}
use Rattle.used_files.proofs.paths.first_folder.Goals as goal

pub returns : goal.returns
returns c = record {
  parts = folder_found c.args.path.now c.split_once.result c.split_once.ensures.cases;
  shorter = folder_shorter c.args.path.now c.split_once.result c.split_once.ensures.cases;
}
