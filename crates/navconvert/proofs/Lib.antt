mod Commanded
