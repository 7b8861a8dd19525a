-- What files that never fail hold.
use Rattle.qv_outside.specs.FileMap.{FileMap}
use Rattle.qv_outside.specs.declared.steady_files.SteadyFiles.{SteadyFiles}

abbrev pub files_of : SteadyFiles → FileMap
files_of s = s.entries
